-- An accepted body's normal form has bytes, with numbers for all ids to which its old indices map and those in the types of its
-- sequences; and it has bytes, or a fault of these, with numbers whose faults are these.
use Rattle.std.specs.Prelude.{◌≡◌, ℕ, suc, zero, List, [], ◌∷◌, length, map, Option, Some, None, unwrap_or, IsOk, is_ok, IfErr, Result, Ok, Err}
use Rattle.std.specs.List.{AllByRecursion}
use Rattle.std.proofs.Common.{refl, ap, sym, subst, ◌∙◌}
use Rattle.wasm_numbers.specs.Reading.{Many}
use Rattle.wasm_numbers.specs.Numbers.{IsU32}
use Rattle.wasm_operators.specs.Immediates.{an_index, an_outer, kind_of, SpellsImmediate, SpellsImmediates, IsClause}
use Rattle.wasm_operators.specs.Operations.{CatchClause, Cast, Immediate, RawImmediate, index, label, handler, outer, number, branch_table, clauses, cast, operation, RawOperation}
use Rattle.wasm_operators.specs.declared.types.BlockType.{BlockType}
use Rattle.wasm_operators.specs.declared.types.Space.{Space}
use Rattle.wasm_operators.specs.declared.types.Space.TheVariants.{Tags}
use Rattle.wasm_operators.specs.Opcodes.{kinds_of}
use Rattle.wasm_operators.specs.Spelling.{Spells}
use Rattle.wasm_operators.proofs.ShortestNumbers.{unsigned_below}
use Rattle.wasm_operators.proofs.Shortness.{many_length}
use Rattle.wasm_body.proofs.Bytes.BlockTypes.{FromBlock, blocks_from}
use Rattle.wasm_body.proofs.Bytes.Fitting.{fits}
use Rattle.wasm_body.proofs.Bytes.WritableTexts.{Writes, CanWrite, normal_text}
use Rattle.wasm_body.proofs.Bytes.ClauseKinds.{Needs, needs}
use Rattle.wasm_body.specs.declared.error.EmitError.{EmitError}
use Rattle.walrus_ir.specs.declared.val_type.InstrSeqType.{InstrSeqType}
use Rattle.walrus_ir.specs.declared.val_type.InstrSeqType.TheVariants.{Simple}
use Rattle.walrus_ir.specs.Types.{Signature, pick}
use Rattle.wasm_body.specs.declared.error.IndexError.{IndexError}
use Rattle.wasm_body.specs.declared.error.ParseError.TheVariants.{Index}
use Rattle.wasm_body.specs.declared.error.ParseError.{ParseError}
use Rattle.wasm_numbers.specs.Results.{◌>>=◌, infallible, with_fault}
use Rattle.wasm_body.specs.Control.{Role, a_block, a_loop, an_if, a_try, a_try_table, a_catch, a_catch_all, a_delegate, an_else, an_end, role_of, Control, End, first_index, first_depth, control_by, control_of, with_control}
use Rattle.wasm_body.specs.Frames.{SequenceFrame}
use Rattle.wasm_body.specs.Translation.{Translation, translate, translate_immediate, translate_immediates, Located}
use Rattle.wasm_body.specs.Naming.{Environment, NamedOperation, Occurrence, naming, id_at, name_block, block_types, first_signature, allowed, has_types, named_in}
use Rattle.wasm_body.specs.FunctionTree.{Target, Depth}
use Rattle.wasm_body.specs.NormalForm.{typing_of, construct_type, kept, kept_operation, name_at, named_body, body_tree}
use Rattle.wasm_body.specs.FlatText.{TextTranslation, then_by, with_block_type}
use Rattle.wasm_body.specs.Bytes.{Numbers, in_32_bits, numbers_in_32_bits, numbered_block, numbering, writing_numbers, numbered_text, bytes_of, tree_bytes}
use Rattle.wasm_body.specs.SourceTree.{Body}
use Rattle.wasm_body.specs.Parsing.Accepted.{mark, Lawful}
use Rattle.wasm_body.proofs.Structure.Along.{AllMarked, each_of, each_mapped}
use Rattle.wasm_body.proofs.Bytes.LawfulTyped.{named_somewhere}
use Rattle.wasm_body.proofs.Translation.Steps.{Leads, bound, all_of}
use Rattle.wasm_body.proofs.Translation.Translations.{LeadAll, lead_all, translate_leads}
use Rattle.wasm_body.proofs.NormalForm.Exponents.{exponent_of-pow}
use Rattle.wasm_body.proofs.NormalForm.KeptNames.{sure_number, kept_raw, kept_of}
use Rattle.wasm_body.proofs.Translation.Faults.{no_fault_ok, ok_no_fault, first_within, last_within, FaultsAre, OthersWithin, immediates_faults}
use Rattle.wasm_body.proofs.Translation.Kinds.{kind_in, raw_kinds, kinds_kept, only_tag, only_outer}

-- ---- encoded immediates fit 32 bits

pub u32_fits : (n : ℕ) (text : List ℕ) → IsU32 n text → IsOk (in_32_bits n)
u32_fits n text s = fits n (unsigned_below 32 n text s)

all_fit : (count : ℕ) (ns : List ℕ) (text : List ℕ) → Many IsU32 count ns text → AllByRecursion (λ n. IsOk (in_32_bits n)) ns
all_fit zero [] text s = tt
all_fit zero (n ∷ ns) text s = absurd s
all_fit (suc c) [] text s = absurd s
all_fit (suc c) (n ∷ ns) text s = (u32_fits n s.0 s.3, all_fit c ns s.1 s.4)

abbrev counted : ℕ → Result (Unit {0}) EmitError
counted n = in_32_bits n >>= λ _. Ok tt

count_fits : (n : ℕ) (text : List ℕ) → IsU32 n text → IsOk (counted n)
count_fits n text s = by_result (in_32_bits n) (u32_fits n text s)
  where
    by_result : (r : Result ℕ EmitError) → IsOk r → IsOk (let t : Result (Unit {0}) EmitError = r >>= (λ _. Ok tt) in t)
    by_result (Ok m) h = refl
    by_result (Err e) h = absurd cc

-- the labels, depths, numbers and counts of an immediate
abbrev Fits : RawImmediate → Type 0
Fits (label l) = IsOk (in_32_bits l)
Fits (handler n) = IsOk (in_32_bits n)
Fits (outer n) = IsOk (in_32_bits n)
Fits (number n) = IsOk (in_32_bits n)
Fits (branch_table ts d) = IsOk (counted (length ts)) × AllByRecursion (λ l. IsOk (in_32_bits l)) ts × IsOk (in_32_bits d)
Fits (clauses cs) = IsOk (counted (length cs)) × AllByRecursion (λ (c : CatchClause ℕ). IsOk (in_32_bits c.label)) cs
Fits (cast c) = IsOk (in_32_bits c.label)
Fits _ = Unit {0}

clause_fits : (c : CatchClause ℕ) (text : List ℕ) → IsClause c text → IsOk (in_32_bits c.label)
clause_fits c text s =
    let made : CatchClause ℕ = record { by_reference = s.0.0.1; tag = s.0.1.0; label = s.0.1.1 } in
    let is : made ≡ c = cc s.1 in
    let inner = s.2.4 in
    subst (λ (d : CatchClause ℕ). IsOk (in_32_bits d.label)) is (u32_fits s.0.1.1 inner.1 inner.4)

clauses_fit : (count : ℕ) (cs : List (CatchClause ℕ)) (text : List ℕ) → Many IsClause count cs text → AllByRecursion (λ (c : CatchClause ℕ). IsOk (in_32_bits c.label)) cs
clauses_fit zero [] text s = tt
clauses_fit zero (c ∷ cs) text s = absurd s
clauses_fit (suc n) [] text s = absurd s
clauses_fit (suc n) (c ∷ cs) text s = (clause_fits c s.0 s.3, clauses_fit n cs s.1 s.4)

spelt_fits : (i : RawImmediate) (text : List ℕ) → SpellsImmediate i text → Fits i
spelt_fits (label l) text s = u32_fits l text s
spelt_fits (handler n) text s = u32_fits n text s
spelt_fits (outer n) text s = u32_fits n text s
spelt_fits (number n) text s = u32_fits n text s
spelt_fits (branch_table ts d) text s =
    let e : s.0.1 ≡ (ts, d) = cc s.1 in
    let inner = s.2.4 in
    let long : s.0.0 ≡ length s.0.1.0 = many_length IsU32 s.0.0 s.0.1.0 inner.0 inner.3 in
    let P : List ℕ × ℕ → Type 0 = λ t. IsOk (counted (length t.0)) × AllByRecursion (λ l. IsOk (in_32_bits l)) t.0 × IsOk (in_32_bits t.1) in
    subst P e (subst (λ n. IsOk (counted n)) long (count_fits s.0.0 s.2.0 s.2.3), all_fit s.0.0 s.0.1.0 inner.0 inner.3, u32_fits s.0.1.1 inner.1 inner.4)
spelt_fits (clauses cs) text s =
    let e : s.0.1 ≡ cs = cc s.1 in
    let long : s.0.0 ≡ length s.0.1 = many_length IsClause s.0.0 s.0.1 s.2.1 s.2.4 in
    let P : List (CatchClause ℕ) → Type 0 = λ ds. IsOk (counted (length ds)) × AllByRecursion (λ (c : CatchClause ℕ). IsOk (in_32_bits c.label)) ds in
    subst P e (subst (λ n. IsOk (counted n)) long (count_fits s.0.0 s.2.0 s.2.3), clauses_fit s.0.0 s.0.1 s.2.1 s.2.4)
spelt_fits (cast c) text s =
    let made : Cast ℕ = record { from_nullable = s.0.0.0; to_nullable = s.0.0.1; label = s.0.1.0; source = s.0.1.1.0; target = s.0.1.1.1 } in
    let is : made ≡ c = cc s.1 in
    let inner = s.2.4 in
    subst (λ (d : Cast ℕ). IsOk (in_32_bits d.label)) is (u32_fits s.0.1.0 inner.0 inner.3)
spelt_fits (index space n) text s = tt
spelt_fits _ text s = tt

all_spelt : (is : List RawImmediate) (text : List ℕ) → SpellsImmediates is text → AllByRecursion Fits is
all_spelt [] text s = tt
all_spelt (i ∷ is) text s = (spelt_fits i s.0 s.3, all_spelt is s.1 s.4)

-- an operator has the same kinds of immediates after naming
pub named_kinds : {A : Type 0} (env : Environment) (fs : List (SequenceFrame A)) (o : RawOperation) (named : NamedOperation) → translate (naming env fs) o ≡ Ok named
    → kinds_of o.opcode ≡ Some (map kind_of o.immediates) → kinds_of named.opcode ≡ Some (map kind_in named.immediates)
named_kinds env fs o named is kinds =
    let first = bound (translate_immediates (naming env fs) o.immediates) (λ js. Ok (operation o.opcode js)) named is in
    let made : operation o.opcode first.0 ≡ named = cc first.2 in
    let kept = kinds_kept (naming env fs) o.immediates first.0 first.1 in
    subst (λ (n : NamedOperation). kinds_of n.opcode ≡ Some (map kind_in n.immediates)) made
    (kinds ∙ ap (λ ks. Some ks) (sym (raw_kinds o.immediates) ∙ sym kept))

-- it has an encoding
abbrev pub HasText : Occurrence → Type 0
HasText x = (text : List ℕ) × Spells x.spelt text

-- ---- numbers

-- There are numbers of 32 bits, or faults of Q, for the ids to which old indices and old locals map, and for the types of
-- sequences.
pub record AreNumbered (Q : EmitError → Type 0) (env : Environment) (to : Numbers) : Type 0 where
  pub indices : (space : Space) (n id : ℕ) → env.id_of space n ≡ Ok id → IfErr ((numbers_in_32_bits to).number_of space id) Q
  pub locals : (n id : ℕ) → env.local_of n ≡ Ok id → IfErr ((numbers_in_32_bits to).local_number id) Q
  pub blocks : (b : BlockType) (s : Signature) (t : InstrSeqType) → name_block env b ≡ Ok s → pick env.types s ≡ Some t → IfErr (numbered_block to t) Q

-- the result of naming an operator in its place is its translation
pub translated : (env : Environment) (fs : List (SequenceFrame Occurrence)) (o : RawOperation) (named : NamedOperation) → named_in env fs o ≡ Ok named → translate (naming env fs) o ≡ Ok named
translated env fs o named e =
    let types : NamedOperation → Result (Unit {0}) ParseError = λ n. has_types env fs (control_of n) n in
    let was_allowed = bound (allowed fs (control_of o)) (λ u. translate (naming env fs) o >>= λ n. types n >>= λ v. Ok n) named e in
    let found = bound (translate (naming env fs) o) (λ n. types n >>= λ v. Ok n) named was_allowed.2 in
    let with_block_type = bound (types found.0) (λ v. Ok found.0) named found.2 in
    let same : found.0 ≡ named = cc with_block_type.2 in
    found.1 ∙ ap Ok same

module _ (Q : EmitError → Type 0) (env : Environment) (to : Numbers) (has : AreNumbered Q env to) where
  abbrev pub writing : TextTranslation ℕ BlockType
  writing = then_by (numbering to)

  -- the text of an operator as it is read, in a sequence of the type
  abbrev renumbered : InstrSeqType → Translation ℕ BlockType ℕ BlockType EmitError
  renumbered t = record {
    index = λ space n. (numbers_in_32_bits to).number_of space (sure_number (id_at env space n));
    local = λ n. (numbers_in_32_bits to).local_number (sure_number (with_fault Index (env.local_of n)));
    label = in_32_bits;
    handler = in_32_bits;
    outer = in_32_bits;
    number = in_32_bits;
    block = λ b. numbered_block to t;
    alignment = λ e. e;
    count = counted;
  }

  same_index : (f : ℕ → Result ℕ EmitError) (m q : ℕ) → (let s : Result ℕ ⊥ = Ok m in s) ≡ Ok q → f q ≡ f m
  same_index f m q e = let same : m ≡ q = cc e in ap f (sym same)

  same_target : (n : ℕ) (q : Target) → (let s : Result Target ⊥ = Ok (Depth n) in s) ≡ Ok q → writing.label q ≡ in_32_bits n
  same_target n q e = let same : Depth n ≡ q = cc e in ap writing.label (sym same)

  written_lead : (t : InstrSeqType) → LeadAll (kept_raw env) (with_block_type writing t) (renumbered t)
  written_lead t = record {
    indices = λ space n q e. same_index ((numbers_in_32_bits to).number_of space) (sure_number (id_at env space n)) q e;
    locals = λ n q e. same_index (numbers_in_32_bits to).local_number (sure_number (with_fault Index (env.local_of n))) q e;
    labels = same_target;
    handlers = λ n q e. same_index in_32_bits n q e;
    outers = λ n q e. same_index in_32_bits n q e;
    numbers = λ n q e. same_index in_32_bits n q e;
    alignments = exponent_of-pow;
    counts = λ n u e. refl;
  }

  its_faults : {A : Type 0} (fs : List (SequenceFrame A)) (t : InstrSeqType) → IfErr (numbered_block to t) Q → FaultsAre Q (naming env fs) (renumbered t)
  its_faults fs t with_block_type = record {
    indices = λ space n h. numbered space n (env.id_of space n) refl h;
    locals = λ n h. numbered_local n (env.local_of n) refl h;
    blocks = λ b h. with_block_type;
  }
    where
      numbered : (space : Space) (n : ℕ) (r : Result ℕ IndexError) → env.id_of space n ≡ r → IsOk (with_fault Index r) → IfErr ((numbers_in_32_bits to).number_of space (sure_number (id_at env space n))) Q
      numbered space n (Ok id) e h = subst (λ r. IfErr ((numbers_in_32_bits to).number_of space (sure_number (with_fault Index r))) Q) (sym e) (has.indices space n id e)
      numbered space n (Err f) e h = absurd cc

      numbered_local : (n : ℕ) (r : Result ℕ IndexError) → env.local_of n ≡ r → IsOk (with_fault Index r) → IfErr ((numbers_in_32_bits to).local_number (sure_number (with_fault Index (env.local_of n)))) Q
      numbered_local n (Ok id) e h = subst (λ r. IfErr ((numbers_in_32_bits to).local_number (sure_number (with_fault Index r))) Q) (sym e) (has.locals n id e)
      numbered_local n (Err f) e h = absurd cc

  all_within : {A : Type 0} (f : A → Result ℕ EmitError) (xs : List A) → AllByRecursion (λ x. IsOk (f x)) xs → AllByRecursion (λ x. IfErr (f x) Q) xs
  all_within f [] h = tt
  all_within f (x ∷ xs) h = (ok_no_fault Q (f x) h.0, all_within f xs h.1)

  -- an immediate that fits has no fault
  others_within : {A : Type 0} (fs : List (SequenceFrame A)) (t : InstrSeqType) (i : RawImmediate) → Fits i → OthersWithin Q (naming env fs) (renumbered t) i
  others_within fs t (label l) f = ok_no_fault Q (in_32_bits l) f
  others_within fs t (handler n) f = ok_no_fault Q (in_32_bits n) f
  others_within fs t (outer n) f = ok_no_fault Q (in_32_bits n) f
  others_within fs t (number n) f = ok_no_fault Q (in_32_bits n) f
  others_within fs t (branch_table ts d) f = (ok_no_fault Q (counted (length ts)) f.0, all_within in_32_bits ts f.1, ok_no_fault Q (in_32_bits d) f.2)
  others_within fs t (clauses cs) f = (ok_no_fault Q (counted (length cs)) f.0, all_within (λ (c : CatchClause ℕ). in_32_bits c.label) cs f.1)
  others_within fs t (cast c) f = ok_no_fault Q (in_32_bits c.label) f
  others_within fs t _ f = tt

  all_others : {A : Type 0} (fs : List (SequenceFrame A)) (t : InstrSeqType) (is : List RawImmediate) → AllByRecursion Fits is → AllByRecursion (OthersWithin Q (naming env fs) (renumbered t)) is
  all_others fs t [] f = tt
  all_others fs t (i ∷ is) f = (others_within fs t i f.0, all_others fs t is f.1)

  ok_of : {A E : Type 0} (r : Result A E) (x : A) → r ≡ Ok x → IsOk r
  ok_of r x e = ap is_ok e

  -- the faults of writing an operator that was read and named are of Q
  written_operation : {A : Type 0} (fs : List (SequenceFrame A)) (t : InstrSeqType) (o : RawOperation) (text : List ℕ) (named : NamedOperation) →
      Spells o text → translate (naming env fs) o ≡ Ok named → IfErr (numbered_block to t) Q → IfErr (translate (with_block_type writing t) (kept_operation named)) Q
  written_operation fs t o text named spelt is type =
      let kept = kept_of env fs o named is in
      let lead = translate_leads (kept_raw env) (with_block_type writing t) (renumbered t) o.immediates
      (lead_all (kept_raw env) (with_block_type writing t) (renumbered t) (written_lead t) o.immediates (all_of (Leads (kept_raw env).block (with_block_type writing t).block (renumbered t).block) (λ b d h. refl) (block_types o.immediates)))
      (kept_operation named).immediates kept.kept in
      let first = bound (translate_immediates (naming env fs) o.immediates) (λ js. Ok (record { opcode = o.opcode; immediates = js })) named is in
      let h = immediates_faults Q (naming env fs) (renumbered t) (its_faults fs t type) o.immediates
      (all_others fs t o.immediates (all_spelt o.immediates spelt.others spelt.immediates)) (ok_of (translate_immediates (naming env fs) o.immediates) first.0 first.1) in
      last_within Q (translate_immediates (with_block_type writing t) (kept_operation named).immediates) (λ js. record { opcode = named.opcode; immediates = js }) (subst (λ r. IfErr r Q) (sym lead) h)

  -- ---- an operator of a body

  -- the type of the sequences in a construct is that of its block type, or that of none
  type_within : (fs : List (SequenceFrame Occurrence)) (o : RawOperation) (named : NamedOperation) → translate (naming env fs) o ≡ Ok named → IfErr (numbered_block to (construct_type (typing_of env) named)) Q
  type_within fs o named is =
      let first = bound (translate_immediates (naming env fs) o.immediates) (λ js. Ok (record { opcode = o.opcode; immediates = js })) named is in
      let same : named ≡ record { opcode = o.opcode; immediates = first.0 } = cc first.2 in
      subst (λ (n : NamedOperation). IfErr (numbered_block to (construct_type (typing_of env) n)) Q) (sym same) (by_blocks (block_types first.0) (blocks_from (naming env fs) o.immediates first.0 first.1))
    where
      by_pick : (s : Signature) (b : BlockType) → name_block env b ≡ Ok s → (picked : Option InstrSeqType) → pick env.types s ≡ picked → IfErr (numbered_block to (unwrap_or (pick env.types s) (Simple None))) Q
      by_pick s b e (Some t) p = subst (λ r. IfErr (numbered_block to (unwrap_or r (Simple None))) Q) (sym p) (has.blocks b s t e p)
      by_pick s b e None p = subst (λ r. IfErr (numbered_block to (unwrap_or r (Simple None))) Q) (sym p) tt

      by_blocks : (ss : List Signature) → AllByRecursion (FromBlock (naming env fs)) ss → IfErr (numbered_block to (unwrap_or (pick env.types (first_signature ss)) (Simple None))) Q
      by_blocks [] h = tt
      by_blocks (s ∷ ss) h = by_pick s h.0.0 h.0.1 (pick env.types s) refl

  -- the text of an operator's one immediate
  alone_within : (o : NamedOperation) (i : Immediate ℕ Signature) (k : Immediate Target (Unit {0})) → o.immediates ≡ i ∷ [] → infallible (translate_immediates kept (i ∷ [])) ≡ k ∷ [] →
      IfErr (translate (with_block_type writing (Simple None)) (kept_operation o)) Q → IfErr (translate_immediate (with_block_type writing (Simple None)) k) Q
  alone_within o i k e kept_so h =
      let t = with_block_type writing (Simple None) in
      let all = first_within Q (translate_immediates t (kept_operation o).immediates) (λ is. Ok (operation o.opcode is)) h in
      let alone : (kept_operation o).immediates ≡ k ∷ [] = ap (λ is. infallible (translate_immediates kept is)) e ∙ kept_so in
      first_within Q (translate_immediate t k) (λ j. Ok (j ∷ [])) (subst (λ is. IfErr (translate_immediates t is) Q) alone all)

  tag_within : (o : NamedOperation) → map kind_in o.immediates ≡ an_index Tags ∷ [] → IfErr (translate (with_block_type writing (Simple None)) (kept_operation o)) Q → IfErr (writing.index Tags (first_index o.immediates)) Q
  tag_within o p h =
      let t = only_tag o.immediates p in
      let made : ℕ → Immediate ℕ BlockType = λ m. index Tags m in
      subst (λ is. IfErr (writing.index Tags (first_index is)) Q) (sym t.1)
      (first_within Q (writing.index Tags t.0) (λ m. Ok (made m)) (alone_within o (index Tags t.0) (index Tags t.0) t.1 refl h))

  outer_within : (o : NamedOperation) → map kind_in o.immediates ≡ an_outer ∷ [] → IfErr (translate (with_block_type writing (Simple None)) (kept_operation o)) Q → IfErr (writing.outer (first_depth o.immediates)) Q
  outer_within o p h =
      let d = only_outer o.immediates p in
      let made : ℕ → Immediate ℕ BlockType = λ m. outer m in
      subst (λ is. IfErr (writing.outer (first_depth is)) Q) (sym d.1)
      (first_within Q (writing.outer d.0) (λ m. Ok (made m)) (alone_within o (outer d.0) (outer d.0) d.1 refl h))

  by_role : (r : Role) (a : Located NamedOperation) → Needs r (map kind_in a.op.immediates) →
      IfErr (translate (with_block_type writing (Simple None)) (kept_operation a.op)) Q → IfErr (translate (with_block_type writing (construct_type (typing_of env) a.op)) (kept_operation a.op)) Q →
      Writes Q (writing_numbers to) (typing_of env) a (control_by r a.op.immediates)
  by_role a_block a p single opener = opener
  by_role a_loop a p single opener = opener
  by_role an_if a p single opener = opener
  by_role a_try a p single opener = opener
  by_role a_try_table a p single opener = opener
  by_role a_catch a p single opener = tag_within a.op p single
  by_role a_catch_all a p single opener = tt
  by_role a_delegate a p single opener = outer_within a.op p single
  by_role an_else a p single opener = tt
  by_role an_end a p single opener = tt
  by_role _ a p single opener = single

  abbrev Written : Occurrence → Control → Type 0
  Written x c = CanWrite Q (writing_numbers to) (typing_of env) (name_at x) c

  writes_occurrence : (x : Occurrence) (fs : List (SequenceFrame Occurrence)) → named_in env fs x.spelt ≡ Ok x.named → HasText x → Written x (control_of x.named)
  writes_occurrence x fs is has_text =
      let spelt = has_text.1 in
      let named = translated env fs x.spelt x.named is in
      let is_needed = needs x.named.opcode (map kind_in x.named.immediates) (named_kinds env fs x.spelt x.named named spelt.kinds) (role_of x.named.opcode) refl in (
        refl,
        by_role (role_of x.named.opcode) (name_at x) is_needed (written_operation fs (Simple None) x.spelt has_text.0 x.named spelt named tt)
            (written_operation fs (construct_type (typing_of env) x.named) x.spelt has_text.0 x.named spelt named (type_within fs x.spelt x.named named)),
      )

  -- ---- a body

  abbrev Somewhere : Occurrence → Control → Type 0
  Somewhere x c = (fs : List (SequenceFrame Occurrence)) × (named_in env fs x.spelt ≡ Ok x.named)

  all_written : (xs : List Occurrence) → AllByRecursion HasText xs → AllMarked Somewhere (map mark xs) → AllMarked Written (map mark xs)
  all_written [] t h = tt
  all_written (x ∷ xs) t h = (writes_occurrence x h.0.0 h.0.1 t.0, all_written xs t.1 h.1)

  text_within : (xs : List Occurrence) (b : Body Occurrence) → AllByRecursion HasText xs → Lawful env xs b → IfErr (numbered_text to (body_tree env b)) Q
  text_within xs b texts lawful =
      let named = named_somewhere env xs b lawful in
      let marks = subst (AllMarked Written) lawful.is_body (all_written xs texts named) in
      let each = (each_of Written b.sequence (with_control b.close End ∷ []) marks).0 in
      normal_text Q (writing_numbers to) (typing_of env) (named_body b) (each_mapped (CanWrite Q (writing_numbers to) (typing_of env)) name_at b.sequence each)

  -- The normal form of an accepted body has bytes, or a fault of Q.
  pub bytes_within : (xs : List Occurrence) (b : Body Occurrence) → AllByRecursion HasText xs → Lawful env xs b → IfErr (tree_bytes to (body_tree env b)) Q
  bytes_within xs b texts lawful = last_within Q (numbered_text to (body_tree env b)) bytes_of (text_within xs b texts lawful)

-- ---- with numbers for all

-- There are numbers of 32 bits for the ids to which old indices and old locals map, and for the types of sequences.
pub record HasNumbers (env : Environment) (to : Numbers) : Type 0 where
  pub indices : (space : Space) (n id : ℕ) → env.id_of space n ≡ Ok id → IsOk ((numbers_in_32_bits to).number_of space id)
  pub locals : (n id : ℕ) → env.local_of n ≡ Ok id → IsOk ((numbers_in_32_bits to).local_number id)
  pub blocks : (b : BlockType) (s : Signature) (t : InstrSeqType) → name_block env b ≡ Ok s → pick env.types s ≡ Some t → IsOk (numbered_block to t)

abbrev no_fault : EmitError → Type 0
no_fault e = ⊥

-- The normal form of an accepted body has bytes.
pub body_bytes_ok : (env : Environment) (to : Numbers) → HasNumbers env to → (xs : List Occurrence) (b : Body Occurrence) → AllByRecursion HasText xs → Lawful env xs b → IsOk (tree_bytes to (body_tree env b))
body_bytes_ok env to has xs b texts lawful =
    let numbered : AreNumbered no_fault env to = record {
      indices = λ space n id e. ok_no_fault no_fault ((numbers_in_32_bits to).number_of space id) (has.indices space n id e);
      locals = λ n id e. ok_no_fault no_fault ((numbers_in_32_bits to).local_number id) (has.locals n id e);
      blocks = λ b s t e p. ok_no_fault no_fault (numbered_block to t) (has.blocks b s t e p);
    } in
    no_fault_ok (tree_bytes to (body_tree env b)) (bytes_within no_fault env to numbered xs b texts lawful)
