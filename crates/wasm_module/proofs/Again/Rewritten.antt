-- What is written of a body of a module, as a body of the module that was read again, is written unchanged.
use Rattle.std.proofs.Common.{◌≡◌, ◌⊎◌, ◌+◌, ◌<◌, ℕ, List, [], ◌++◌, length, slice_get, Option, Some, None, Result, Ok, Err, refl, sym, ap, ◌∙◌, subst, arith, length-append}
use Rattle.std.specs.Prelude.{◌^◌, nat_lt, option_and_then}
use Rattle.std.specs.FinMap.{get}
use Rattle.std.proofs.lemmas.Option.{same_Some, slice_get_within}
use Rattle.wasm_types.specs.declared.val_type.ValType.{ValType}
use Rattle.walrus_ir.specs.Types.{ModuleType, Func, Other, signature_in}
use Rattle.wasm_numbers.specs.Results.{◌>>=◌, each, unless, some_or, with_fault}
use Rattle.wasm_numbers.proofs.ResultLemmas.{ok_same}
use Rattle.wasm_operators.specs.declared.types.Space.{Space}
use Rattle.wasm_operators.specs.declared.types.Space.TheVariants as spaces
use Rattle.wasm_encode.specs.Declarations.{declaration_bytes}
use Rattle.wasm_body.specs.declared.error.EmitError.{EmitError}
use Rattle.wasm_body.specs.declared.error.EmitError.TheVariants as emit
use Rattle.wasm_body.specs.declared.error.IndexError.TheVariants.{OutOfRange, Unnumbered}
use Rattle.wasm_body.specs.declared.error.ParseError.{ParseError}
use Rattle.wasm_body.specs.declared.error.ParseError.TheVariants.{Index}
use Rattle.wasm_body.specs.Naming.{Environment}
use Rattle.wasm_body.specs.NormalForm.{body_tree}
use Rattle.wasm_body.specs.Bytes.{Numbers, numbers_in_32_bits, tree_bytes}
use Rattle.wasm_body.specs.LocalNumbers.{Local, AreDeclared, uses_local, types_of, ids_of, runs, declared, numbering_locals}
use Rattle.wasm_body.specs.Parsing.Accepted.{Accepted}
use Rattle.wasm_body.proofs.LocalNumbers.{one_declared}
use Rattle.wasm_body.proofs.Bytes.Fitting.{fitting_result}
use Rattle.wasm_body.proofs.Translation.Steps.{bound}
use Rattle.walrus_maps.specs.declared.indices_to_ids.IndicesToIds.{IndicesToIds}
use Rattle.walrus_maps.specs.declared.ids_to_indices.IdsToIndices.{IdsToIndices}
use Rattle.walrus_maps.specs.IndexMaps.{ids_in, numbers_in, id_of, number_of, local_of}
use Rattle.walrus_maps.specs.Environments.{environment_of}
use Rattle.walrus_context.specs.Placing.{ids_at}
use Rattle.walrus_numbering.specs.NumberMaps.{numbers_by, fitting_number}
use Rattle.walrus_parser.specs.declared.body.FunctionBody.{FunctionBody}
use Rattle.walrus_parser.specs.Bodies.{body_operators}
use Rattle.wasm_body.specs.Pairs.{Pair}
use Rattle.wasm_sections.specs.CodeSections.{BodyAt}
use Rattle.wasm_sections.specs.Components.{Components, count_in}
use Rattle.wasm_sections.specs.Declarations.{first_numbers, parameters_in, parameters_of_type, groups, named_group, expanded, HaveLocals}
use Rattle.wasm_sections.specs.NextItems.{own_numbers}
use Rattle.wasm_sections.specs.LocalsBelow.{locals_below}
use Rattle.wasm_sections.proofs.SpaceLemmas.{first_numbers_length, number_in}
use Rattle.wasm_module.specs.declared.parsed.ParsedModule.{ParsedModule}
use Rattle.wasm_module.specs.ReadModules.{components_of}
use Rattle.wasm_module.specs.ReadFrom.{IsModuleOf}
use Rattle.wasm_module.specs.ReadAgain.{HasSameItems}
use Rattle.wasm_module.specs.RewrittenCode.{Extends, IsRewrittenAs, IsRewritten, setting_in}
use Rattle.wasm_module.proofs.ReadingLemmas.{own_is, each_at}
use Rattle.wasm_module.proofs.Again.Locals.{AreFirst, at_next, many_types}
use Rattle.wasm_module.proofs.Again.Declarations.{AreWritten, are_written, declarations_read, named_again, expanded_runs}
use Rattle.wasm_module.proofs.Again.AddedTypes.{IsFunctionType, HaveTypesAdded}
use Rattle.wasm_module.proofs.Again.Bodies.{IsSpelled, spelled_again}
use Rattle.wasm_module.proofs.Again.FunctionTypes.{has_types, known_type_of}
use Rattle.wasm_module.proofs.Again.Locals.{get_before}

-- ---- maps of a module in which only locals may differ

ids_kept : (i : IndicesToIds) (j : IndicesToIds) → j ≡ record i { locals = j.locals } → (space : Space) → ids_in j space ≡ ids_in i space
ids_kept i j e spaces.Types = ap (λ (x : IndicesToIds). x.types) e
ids_kept i j e spaces.Funcs = ap (λ (x : IndicesToIds). x.funcs) e
ids_kept i j e spaces.Tables = ap (λ (x : IndicesToIds). x.tables) e
ids_kept i j e spaces.Memories = ap (λ (x : IndicesToIds). x.memories) e
ids_kept i j e spaces.Globals = ap (λ (x : IndicesToIds). x.globals) e
ids_kept i j e spaces.Tags = ap (λ (x : IndicesToIds). x.tags) e
ids_kept i j e spaces.Elements = ap (λ (x : IndicesToIds). x.elements) e
ids_kept i j e spaces.Data = ap (λ (x : IndicesToIds). x.data) e

of_some : {A E : Type 0} (o : Option A) (f : E) (x : A) → some_or o f ≡ Ok x → o ≡ Some x
of_some (Some y) f x e = let is : y ≡ x = cc e in ap (λ z. Some z) is
of_some None f x e = absurd cc

unfaulted : {A E F : Type 0} (fault : E → F) (r : Result A E) (x : A) → with_fault fault r ≡ Ok x → r ≡ Ok x
unfaulted fault (Ok y) x e = let is : y ≡ x = cc e in ap (λ z. Ok z) is
unfaulted fault (Err f) x e = absurd cc

-- an index that has an id is it, and below the number of items
index_is : (ids : List ℕ) (count n id : ℕ) → ids ≡ first_numbers count → slice_get ids n ≡ Some id → (id ≡ n) × (n < count)
index_is ids count n id e h =
    let long : length ids ≡ count = ap length e ∙ first_numbers_length count in
    let within = slice_get_within ids n id h in
    let below : n < count = omega arith in
    (same_Some id n (sym h ∙ number_in ids count n e below), below)

-- ---- a module and one that was read again

module _ (bytes : List ℕ) (source again : ParsedModule) (p : IsModuleOf bytes source) (same : HasSameItems source again) where
  abbrev m : Components
  m = components_of source

  abbrev types : List ModuleType
  types = source.module.types

  module _ (x : ParsedModule) (e : Extends source x) where
    ids_first : (space : Space) → ids_in x.spaces.indices space ≡ first_numbers (count_in m space)
    ids_first space =
        ids_kept source.spaces.indices x.spaces.indices (e.spaces.indices ∙ ap (λ l. (let i : IndicesToIds = record source.spaces.indices { locals = l } in i)) (sym (ap (λ (i : IndicesToIds). i.locals) e.spaces.indices))) space
        ∙ p.indices.ids space

    numbers_own : (space : Space) → numbers_in x.spaces.numbers space ≡ own_numbers (count_in m space)
    numbers_own space = ap (λ (n : IdsToIndices). numbers_in n space) e.spaces.numbers ∙ p.indices.numbers space

    -- the number of an id leads back to it
    undone : (space : Space) (id n : ℕ) → (numbers_by x.module.types x.spaces.numbers []).number_of space id ≡ Ok n → id_of x.spaces.indices space n ≡ Ok id
    undone space id n h =
        let r = bound (number_of x.spaces.numbers space id) (fitting_number (Unnumbered space)) n (unfaulted emit.Index (number_of x.spaces.numbers space id >>= fitting_number (Unnumbered space)) n h) in
        let first = of_some (get (numbers_in x.spaces.numbers space) id) (Unnumbered space) r.0 r.1 in
        let own = own_is (count_in m space) id r.0 (sym (ap (λ f. get f id) (numbers_own space)) ∙ first) in
        let fits : n ≡ r.0 = fits_is n r.0 space r.2 in
        let number : n ≡ id = fits ∙ own.0 in
        ap (λ o. some_or o (OutOfRange space n)) (number_in (ids_in x.spaces.indices space) (count_in m space) n (ids_first space) (omega (arith, own.1))) ∙ ap (λ (k : ℕ). Ok k) number
      where
        fits_is : (n k : ℕ) (space : Space) → fitting_number (Unnumbered space) k ≡ Ok n → n ≡ k
        fits_is n k space h = let b = bound (unless (nat_lt k (2 ^ 32)) (Unnumbered space)) (λ _. Ok k) n h in let is : k ≡ n = cc b.2 in sym is

    known : (n id : ℕ) → id_of x.spaces.indices spaces.Types n ≡ Ok id → IsFunctionType types id ⊎ (slice_get types id ≡ Some Other)
    known n id h =
        let is = index_is (ids_in x.spaces.indices spaces.Types) (length types) n id (ids_first spaces.Types) (of_some (slice_get (ids_in x.spaces.indices spaces.Types) n) (OutOfRange spaces.Types n) id h) in
        known_type_of types id (has_types bytes m p.spells).types (omega (arith, is.0, is.1))

  module _ (x y : ParsedModule) (e : Extends source x) (f : Extends again y) where
    same_ids : (space : Space) → ids_in y.spaces.indices space ≡ ids_in x.spaces.indices space
    same_ids space =
        ids_kept again.spaces.indices y.spaces.indices (f.spaces.indices ∙ ap (λ l. (let i : IndicesToIds = record again.spaces.indices { locals = l } in i)) (sym (ap (λ (i : IndicesToIds). i.locals) f.spaces.indices))) space
        ∙ (same.ids space ∙ (p.indices.ids space ∙ sym (ids_first x e space)))

    same_id : (space : Space) (n : ℕ) → id_of y.spaces.indices space n ≡ id_of x.spaces.indices space n
    same_id space n = ap (λ l. some_or (slice_get l n) (OutOfRange space n)) (same_ids space)

    same_number : (space : Space) (id : ℕ) → (numbers_by y.module.types y.spaces.numbers []).number_of space id ≡ (numbers_by x.module.types x.spaces.numbers []).number_of space id
    same_number space id =
        let maps : numbers_in y.spaces.numbers space ≡ numbers_in x.spaces.numbers space =
        ap (λ (n : IdsToIndices). numbers_in n space) f.spaces.numbers ∙ (same.numbers space ∙ sym (ap (λ (n : IdsToIndices). numbers_in n space) e.spaces.numbers)) in
        ap (λ g. with_fault emit.Index (some_or (get g id) (Unnumbered space) >>= fitting_number (Unnumbered space))) maps

    added : (type : ℕ) → HaveTypesAdded types (environment_of x.module x.spaces.indices 0 type) (environment_of y.module y.spaces.indices 0 type)
    added type = record {
      more = e.types.0;
      more' = f.types.0;
      types_are = e.types.1;
      types_are' = f.types.1 ∙ ap (λ (ts : List ModuleType). ts ++ f.types.0) same.types;
      ids = λ space n id h. ap (with_fault Index) (same_id space n) ∙ h;
      known = λ n id h. known x e n id (unfaulted Index (id_of x.spaces.indices spaces.Types n) id h);
    }

    -- a function has the same parameters in both
    same_parameters : (function type : ℕ) → slice_get source.func_types.items function ≡ Some type → parameters_of_type y.module.types type ≡ parameters_of_type x.module.types type
    same_parameters function type is =
        let t = each_at (IsFunctionType types) source.func_types.items function type (has_types bytes m p.spells).functions is in
        let there : (more : List ModuleType) → slice_get (types ++ more) type ≡ Some (Func t.0 t.1) =
        λ more. get_before types more type (slice_get_within types type (Func t.0 t.1) t.2) ∙ t.2 in
        let at : (ts more : List ModuleType) → ts ≡ types ++ more → parameters_of_type ts type ≡ t.0 =
        λ ts more e. ap (λ l. parameters_of_type l type) e ∙ ap (λ o. parameters_in (option_and_then signature_in o)) (there more) in
        at y.module.types f.types.0 (f.types.1 ∙ ap (λ (ts : List ModuleType). ts ++ f.types.0) same.types) ∙ sym (at x.module.types e.types.0 e.types.1)

    -- ---- a body, with what it is parsed with

    module _
        (function type : ℕ) (is_type : slice_get source.func_types.items function ≡ Some type) (args : List ℕ) (args_are : args ≡ first_numbers (length (parameters_of_type x.module.types type)))
        (count : ℕ) (old : FunctionBody) (raw : List ℕ) (pairs : List Pair) (one : IsRewrittenAs x type args count old raw pairs)
        (count' : ℕ) (read : FunctionBody) (raw' : List ℕ) (pairs' : List Pair) (two : IsRewrittenAs y type args count' read raw' pairs')
        (locals : HaveLocals y.spaces.indices (parameters_of_type y.module.types type) raw (body_operators read) y.module.locals)
        (own : (local : ℕ) → local < count' → local_of y.spaces.indices 0 local ≡ Ok local) (count_is : count' ≡ length y.module.locals) where
      abbrev env : Environment
      env = environment_of x.module x.spaces.indices 0 type

      abbrev env' : Environment
      env' = environment_of y.module y.spaces.indices 0 type

      abbrev to : Numbers
      to = numbers_by x.module.types x.spaces.numbers []

      abbrev to' : Numbers
      to' = numbers_by y.module.types y.spaces.numbers []

      abbrev parameters : List (ValType ℕ)
      parameters = parameters_of_type x.module.types type

      abbrev others : List Local
      others = one.is_raw_body.others

      abbrev declarations : List (ℕ × ValType ℕ)
      declarations = one.is_raw_body.declarations

      abbrev operators : List ℕ
      operators = one.is_raw_body.operators

      many_arguments : length args ≡ length parameters
      many_arguments = ap length args_are ∙ first_numbers_length (length parameters)

      first : AreFirst args (length args)
      first = record { many = refl; place = λ i h. number_in args (length parameters) i args_are (let many = many_arguments in omega arith) }

      written : AreWritten to (runs (types_of others)) declarations
      written = are_written to (length args) others declarations one.is_raw_body.declarations_are

      -- the declarations and the operators are read as they were written
      both_read : (locals.declared ≡ declarations) × (body_operators read ≡ operators)
      both_read =
          let is = ok_same (locals.declared, body_operators read) (declarations, operators) (sym locals.are_read ∙ (ap groups one.is_raw_body.bytes_are ∙ declarations_read declarations operators written.few written.fit)) in
          (ap (λ (z : List (ℕ × ValType ℕ) × List ℕ). z.0) is, ap (λ (z : List (ℕ × ValType ℕ) × List ℕ). z.1) is)

      type_undone : (n k : ℕ) → (numbers_in_32_bits to).number_of spaces.Types n ≡ Ok k → ids_at y.spaces.indices spaces.Types k ≡ Ok n
      type_undone n k h = ap (with_fault Index) (same_id spaces.Types k ∙ undone x e spaces.Types n k (fitting_result (to.number_of spaces.Types n) k h).is_result)

      named_are : locals.named ≡ runs (types_of others)
      named_are =
          ok_same {E = ParseError} locals.named (runs (types_of others))
          (sym locals.are_named ∙ (ap (each (named_group y.spaces.indices)) both_read.0 ∙ named_again to (ids_at y.spaces.indices) type_undone (runs (types_of others)) declarations written.each_is))

      -- each local that is declared has its type again
      locals_are : y.module.locals ≡ parameters ++ types_of others
      locals_are =
          locals.locals_are
          ∙ ((λ i. same_parameters function type is_type i ++ expanded (named_are i)) ∙ ap (λ l. parameters ++ l) (expanded_runs (types_of others)))

      own_there : (n : ℕ) → n < length args + length others → env'.local_of n ≡ Ok n
      own_there n h =
          own n
          (let count = count_is in
          let long = ap length locals_are ∙ length-append parameters (types_of others) in
          let types = many_types others in
          let many = many_arguments in
          omega arith)

      spelled : IsSpelled args (length args) to x.module.locals (body_tree env one.body) others declarations operators
      spelled = record {
        are_declared = one.is_raw_body.are_declared;
        declarations_are = one.is_raw_body.declarations_are;
        operators_are = one.is_raw_body.operators_are;
      }

      spelled_there : IsSpelled args (length args) to' (parameters ++ types_of others) (body_tree env' two.body) (at_next (length args) others) declarations operators
      spelled_there =
          spelled_again types env env' (added type) to to' same_number (undone x e) (λ t. refl) (λ t. refl) args (length args) first parameters x.module.locals (sym many_arguments)
          (setting_in x type count old) (body_operators old) one.body one.accepted refl others declarations operators spelled (read.start + read.ops) locals_below count' own_there two.body
          (subst (λ l. Accepted (setting_in y type count' read) l two.body) both_read.1 two.accepted)

      same_others : two.is_raw_body.others ≡ at_next (length args) others
      same_others =
          one_declared y.module.locals args (uses_local (body_tree env' two.body)) two.is_raw_body.others (at_next (length args) others) two.is_raw_body.are_declared
          (subst (λ l. AreDeclared l args (uses_local (body_tree env' two.body)) (at_next (length args) others)) (sym locals_are) spelled_there.are_declared)

      same_declarations : two.is_raw_body.declarations ≡ declarations
      same_declarations =
          ok_same {E = EmitError} two.is_raw_body.declarations declarations (sym two.is_raw_body.declarations_are ∙ (ap (declared to' (length args)) same_others ∙ spelled_there.declarations_are))

      same_operators : two.is_raw_body.operators ≡ operators
      same_operators =
          ok_same {E = EmitError} two.is_raw_body.operators operators
          (sym two.is_raw_body.operators_are ∙ (ap (λ (l : List Local). tree_bytes (numbering_locals to' args (ids_of l)) (body_tree env' two.body)) same_others ∙ spelled_there.operators_are))

      pub raw_unchanged : raw' ≡ raw
      raw_unchanged = two.is_raw_body.bytes_are ∙ ((λ i. declaration_bytes (same_declarations i) ++ same_operators i) ∙ sym one.is_raw_body.bytes_are)

  -- ---- a body of a function

  pub body_unchanged : (function : ℕ) (b b' : BodyAt) (raw raw' : List ℕ) → IsRewritten source function b raw → b'.bytes ≡ raw → IsRewritten again function b' raw' → raw' ≡ raw
  body_unchanged function b b' raw raw' one at two =
      let x = one.now in
      let y = two.now in
      let e = one.entered.enters in
      let f = two.entered.enters in
      let type : ℕ = one.entered.type in
      let is : two.entered.type ≡ type =
      same_Some two.entered.type type (sym f.is_type ∙ (ap (λ (l : List ℕ). slice_get l function) same.functions ∙ e.is_type)) in
      let args : two.entered.args ≡ one.entered.args =
      f.args_are ∙ (ap (λ t. first_numbers (length (parameters_of_type y.module.types t))) is
      ∙ (ap (λ (l : List (ValType ℕ)). first_numbers (length l)) (same_parameters x y e.extends f.extends function type e.is_type) ∙ sym e.args_are)) in
      let rewritten : IsRewrittenAs y type one.entered.args two.entered.count two.entered.body raw' two.pairs =
      subst (λ l. IsRewrittenAs y type l two.entered.count two.entered.body raw' two.pairs) args
      (subst (λ t. IsRewrittenAs y t two.entered.args two.entered.count two.entered.body raw' two.pairs) is two.is_rewritten) in
      let locals : HaveLocals y.spaces.indices (parameters_of_type y.module.types type) raw (body_operators two.entered.body) y.module.locals =
      subst (λ l. HaveLocals y.spaces.indices (parameters_of_type y.module.types type) l (body_operators two.entered.body) y.module.locals) at
      (subst (λ t. HaveLocals y.spaces.indices (parameters_of_type y.module.types t) b'.bytes (body_operators two.entered.body) y.module.locals) is f.locals) in
      raw_unchanged x y e.extends f.extends function type e.is_type one.entered.args e.args_are one.entered.count one.entered.body raw one.pairs one.is_rewritten
      two.entered.count two.entered.body raw' two.pairs rewritten locals f.local_ids f.count_is
