-- A body that is rewritten: what the contract of `rewrite_body` says about it.
use Rattle.std.proofs.Common.{◌≡◌, ℕ, Bool, true, false, List, [], ◌++◌, length, slice_get, Option, None, Some, Result, Ok, Err, OnOk, IfOk, refl, sym, ap, subst, ◌∙◌}
use Rattle.std.specs.Borrow.{Bor}
use Rattle.std.specs.Fn.{Shared}
use Rattle.wasm_types.specs.declared.val_type.ValType.{ValType}
use Rattle.walrus_ir.specs.Function.{Function}
use Rattle.walrus_ir.specs.declared.module.Module.{Module}
use Rattle.wasm_body.specs.Pairs.{Pair}
use Rattle.wasm_body.specs.SourceTree.{Body}
use Rattle.wasm_body.specs.Naming.{Occurrence}
use Rattle.wasm_body.specs.Parsing.Accepted.{Accepted}
use Rattle.walrus_parser.specs.declared.body.FunctionBody.{FunctionBody}
use Rattle.walrus_maps.specs.declared.indices_to_ids.IndicesToIds.{IndicesToIds}
use Rattle.walrus_maps.specs.IndexMaps.{local_of}
use Rattle.walrus_body.specs.FunctionParts.{FunctionParts}
use Rattle.walrus_parser.specs.Bodies.{AcceptsBody, body_input, body_setting, body_operators}
use Rattle.walrus_body.specs.EmittedInstructions.{LentPairs, Left}
use Rattle.walrus_numbering.specs.NumberMaps.{numbers_by}
use Rattle.walrus_emit_state.specs.Emission.{Output}
use Rattle.walrus_rewrite.specs.RawBodies.{EmitInput, emit_input, IsRawBodyOf, AppendsPairs, AppendsRawBody}
use Rattle.walrus_rewrite.specs.RewrittenBodies.{Rewrites}
use Rattle.walrus_flat.specs.RewrittenFlat.{RewritesFlat, RewritesTo}
use Rattle.wasm_module.specs.declared.body_writer.Measured.{Measured}
use Rattle.wasm_module.specs.declared.body_writer.Needed.{Needed}
use Rattle.wasm_module.specs.declared.body_writer.Needed.TheVariants.{Nothing}
use Rattle.wasm_module.specs.WantedPairs.{wants_pairs}
use Rattle.wasm_module.specs.declared.parsed.ParsedModule.{ParsedModule}
use Rattle.wasm_sections.specs.CodeSections.{BodyAt}
use Rattle.wasm_sections.specs.Declarations.{parameters_of_type, HaveLocals, first_numbers}
use Rattle.wasm_sections.specs.LocalsBelow.{locals_below}
use Rattle.wasm_module.specs.RewrittenCode.{Extends, Enters, Entered, IsRewrittenAs, IsRewritten, IsRewrittenWith, IsAccepted, IsParsed, OneChange, IsChangedWith}
use Rattle.wasm_module.proofs.ModuleLemmas.{Alike, extends_then, extends_kept}

-- no location function
abbrev no_location_function : (F : Type 0) → Option (Bor F)
no_location_function F = None

-- bytes that are appended to an empty list, and pairs that are appended to a list, if there is one
pub rewritten :
    {F Z : Type 0} {calls : Shared F (Bor ℕ × Unit {0}) ℕ} {made : Function} {mapping : List (ℕ × ℕ)} {entry : Option (LentPairs Z)} {exit : Left (LentPairs Z)}
    (source now : ParsedModule) (function : ℕ) (b : BodyAt) (type id : ℕ) (args : List ℕ) (count : ℕ) (body : FunctionBody) (old raw : List ℕ) →
    Enters source function b now type args count body → id ≡ 0 → old ≡ [] →
    Rewrites calls (body_input now.module now.spaces.indices id type body (no_location_function F) locals_below count)
    (record { to = numbers_by now.module.types now.spaces.numbers []; types = now.module.locals; args = args }) made mapping old raw entry exit →
    (r : IsRewritten source function b raw) × AppendsPairs r.pairs entry exit
rewritten {F} {Z} {calls} {made} {mapping} {entry} {exit} source now function b type id args count body old raw enters is_first none r =
    let At : ℕ → Type 0 =
    λ n. Rewrites calls (body_input now.module now.spaces.indices n type body (no_location_function F) locals_below count)
    (record { to = numbers_by now.module.types now.spaces.numbers []; types = now.module.locals; args = args }) made mapping old raw entry exit in
    let x = subst At is_first r in
    let all : x.raw ≡ raw = sym (x.bytes ∙ ap (λ (l : List ℕ). l ++ x.raw) none) in
    let is_rewritten : IsRewrittenAs now type args count body x.raw x.pairs =
    record { body = x.accepts.body; accepted = x.accepts.accepted; is_raw_body = x.is_raw_body; keeps = x.keeps } in
    let it : IsRewritten source function b raw = record {
      now = now;
      entered = record { type = type; args = args; count = count; body = body; enters = enters };
      pairs = x.pairs;
      is_rewritten = subst (λ (l : List ℕ). IsRewrittenAs now type args count body l x.pairs) all is_rewritten;
    } in
    (it, x.appends_pairs)

-- the same, without a tree
pub rewritten_flat :
    {F Z : Type 0} {calls : Shared F (Bor ℕ × Unit {0}) ℕ} {entry : Option (LentPairs Z)} {exit : Left (LentPairs Z)}
    (source now : ParsedModule) (function : ℕ) (b : BodyAt) (type id : ℕ) (given args : List ℕ) (count : ℕ) (body : FunctionBody) (old raw : List ℕ) →
    Enters source function b now type args count body → id ≡ 0 → given ≡ args → old ≡ [] →
    RewritesFlat calls (body_input now.module now.spaces.indices id type body (no_location_function F) locals_below count)
    (record { to = numbers_by now.module.types now.spaces.numbers []; types = now.module.locals; args = given }) old raw entry exit →
    (r : IsRewritten source function b raw) × AppendsPairs r.pairs entry exit
rewritten_flat {F} {Z} {calls} {entry} {exit} source now function b type id given args count body old raw enters is_first args_are none r =
    let At : ℕ → List ℕ → Type 0 =
    λ n xs. RewritesFlat calls (body_input now.module now.spaces.indices n type body (no_location_function F) locals_below count)
    (record { to = numbers_by now.module.types now.spaces.numbers []; types = now.module.locals; args = xs }) old raw entry exit in
    let x = subst (At 0) args_are (subst (λ n. At n given) is_first r) in
    let all : x.raw ≡ raw = sym (x.bytes ∙ ap (λ (l : List ℕ). l ++ x.raw) none) in
    let is_rewritten : IsRewrittenAs now type args count body x.raw x.pairs =
    record { body = x.body; accepted = x.accepted; is_raw_body = x.is_raw_body; keeps = x.keeps } in
    let it : IsRewritten source function b raw = record {
      now = now;
      entered = record { type = type; args = args; count = count; body = body; enters = enters };
      pairs = x.pairs;
      is_rewritten = subst (λ (l : List ℕ). IsRewrittenAs now type args count body l x.pairs) all is_rewritten;
    } in
    (it, x.appends_pairs)

-- the same to a sink, which took the pairs if they are wanted
pub rewritten_flat_to :
    {F : Type 0} {calls : Shared F (Bor ℕ × Unit {0}) ℕ}
    (source now : ParsedModule) (function : ℕ) (b : BodyAt) (type id : ℕ) (given args : List ℕ) (count : ℕ) (body : FunctionBody) (has_map : Bool) (took : Output) →
    Enters source function b now type args count body → id ≡ 0 → given ≡ args →
    RewritesTo calls (body_input now.module now.spaces.indices id type body (no_location_function F) locals_below count)
    (record { to = numbers_by now.module.types now.spaces.numbers []; types = now.module.locals; args = given }) has_map took →
    (pairs : List Pair) × IsRewrittenWith source function b took.bytes pairs × (has_map ≡ true → took.pairs ≡ pairs)
rewritten_flat_to {F} {calls} source now function b type id given args count body has_map took enters is_first args_are r =
    let At : ℕ → List ℕ → Type 0 =
    λ n xs. RewritesTo calls (body_input now.module now.spaces.indices n type body (no_location_function F) locals_below count)
    (record { to = numbers_by now.module.types now.spaces.numbers []; types = now.module.locals; args = xs }) has_map took in
    let y = subst (At 0) args_are (subst (λ n. At n given) is_first r) in
    let x = y.rewrites in
    let is_rewritten : IsRewrittenAs now type args count body x.raw x.pairs =
    record { body = x.body; accepted = x.accepted; is_raw_body = x.is_raw_body; keeps = x.keeps } in
    let it : IsRewritten source function b took.bytes = record {
      now = now;
      entered = record { type = type; args = args; count = count; body = body; enters = enters };
      pairs = x.pairs;
      is_rewritten = subst (λ (l : List ℕ). IsRewrittenAs now type args count body l x.pairs) (sym x.bytes) is_rewritten;
    } in
    (x.pairs, record { rewritten = it; pairs_are = refl }, y.wanted_pairs)

-- the function that a parse returns
pub parsed :
    {F : Type 0} {calls : Shared F (Bor ℕ × Unit {0}) ℕ}
    (source now : ParsedModule) (function : ℕ) (b : BodyAt) (type id : ℕ) (args : List ℕ) (count : ℕ) (body : FunctionBody) (made : FunctionParts) →
    Enters source function b now type args count body → id ≡ 0 →
    AcceptsBody calls (body_input now.module now.spaces.indices id type body (no_location_function F) locals_below count) made.builder made.instruction_mapping → made.args ≡ args →
    IsParsed source function b now made
parsed {F} {calls} source now function b type id args count body made enters is_first accepts args_are =
    let At : ℕ → Type 0 =
    λ n. AcceptsBody calls (body_input now.module now.spaces.indices n type body (no_location_function F) locals_below count) made.builder made.instruction_mapping in
    let x = subst At is_first accepts in
    record {
      entered = record { type = type; args = args; count = count; body = body; enters = enters };
      is_parsed = record { body = x.body; accepted = x.accepted; is_function = x.is_function; args_are = args_are };
    }

-- what a check accepts
pub accepted :
    (source now : ParsedModule) (function : ℕ) (b : BodyAt) (type id : ℕ) (args : List ℕ) (count : ℕ) (body : FunctionBody) →
    Enters source function b now type args count body → id ≡ 0 →
    (tree : Body Occurrence) × Accepted (body_setting now.module now.spaces.indices id type body locals_below count None) (body_operators body) tree →
    IsAccepted source function b now
accepted source now function b type id args count body enters is_first a = record {
  entered = record { type = type; args = args; count = count; body = body; enters = enters };
  tree = a.0;
  accepted =
      subst (λ (n : ℕ). Accepted (body_setting now.module now.spaces.indices n type body locals_below count None) (body_operators body) a.0) is_first a.1;
}

-- ---- after a step that changes neither the module nor its index maps

pub enters_kept :
    (source a now : ParsedModule) (function : ℕ) (b : BodyAt) (type : ℕ) (args : List ℕ) (count : ℕ) (body : FunctionBody) →
    Alike a now → now.module ≡ a.module → now.spaces.indices ≡ a.spaces.indices → now.spaces.numbers ≡ a.spaces.numbers →
    Enters source function b a type args count body → Enters source function b now type args count body
enters_kept source a now function b type args count body alike is_module indices numbers enters = record {
  extends = extends_kept source a now enters.extends alike (ap (λ (m : Module). m.types) is_module) indices numbers;
  is_type = enters.is_type;
  bytes = enters.bytes;
  start = enters.start;
  locals =
      subst (λ (m : Module). HaveLocals now.spaces.indices (parameters_of_type m.types type) b.bytes (body_operators body) m.locals) (sym is_module)
      (subst (λ (x : IndicesToIds). HaveLocals x (parameters_of_type a.module.types type) b.bytes (body_operators body) a.module.locals) (sym indices) enters.locals);
  args_are = enters.args_are ∙ ap (λ (m : Module). first_numbers (length (parameters_of_type m.types type))) (sym is_module);
  count_is = enters.count_is ∙ ap (λ (m : Module). length m.locals) (sym is_module);
  local_ids = λ local is_below. subst (λ (x : IndicesToIds). local_of x 0 local ≡ Ok local) (sym indices) (enters.local_ids local is_below);
}

-- ---- of a module that the source was before

pub enters_then :
    (source a now : ParsedModule) (function : ℕ) (b : BodyAt) (type : ℕ) (args : List ℕ) (count : ℕ) (body : FunctionBody) → Extends source a →
    Enters a function b now type args count body → Enters source function b now type args count body
enters_then source a now function b type args count body e enters = record {
  extends = extends_then source a now e enters.extends;
  is_type = ap (λ ts. slice_get ts.items function) (sym e.func_types) ∙ enters.is_type;
  bytes = enters.bytes;
  start = enters.start;
  locals = enters.locals;
  args_are = enters.args_are;
  count_is = enters.count_is;
  local_ids = enters.local_ids;
}

abbrev pub entered_then : (source a now : ParsedModule) (function : ℕ) (b : BodyAt) → Extends source a → Entered a function b now → Entered source function b now
entered_then source a now function b e x = record {
  type = x.type;
  args = x.args;
  count = x.count;
  body = x.body;
  enters = enters_then source a now function b x.type x.args x.count x.body e x.enters;
}

pub rewritten_then : (source a : ParsedModule) (function : ℕ) (b : BodyAt) (raw : List ℕ) → Extends source a → IsRewritten a function b raw → IsRewritten source function b raw
rewritten_then source a function b raw e r = record {
  now = r.now;
  entered = entered_then source a r.now function b e r.entered;
  pairs = r.pairs;
  is_rewritten = r.is_rewritten;
}

pub rewritten_ok :
    {E R : Type 0} (source a : ParsedModule) (function : ℕ) (b : BodyAt) (raw : List ℕ) (r : Result R E) → Extends source a → OnOk r (IsRewritten a function b raw) →
    OnOk r (IsRewritten source function b raw)
rewritten_ok source a function b raw (Ok x) e p = rewritten_then source a function b raw e p
rewritten_ok source a function b raw (Err x) e p = tt

pub rewritten_with_ok :
    {E R : Type 0} (source a : ParsedModule) (function : ℕ) (b : BodyAt) (raw : List ℕ) (pairs : List Pair) (r : Result R E) → Extends source a →
    OnOk r (IsRewrittenWith a function b raw pairs) → OnOk r (IsRewrittenWith source function b raw pairs)
unfolding rewritten_then
rewritten_with_ok source a function b raw pairs (Ok x) e p = record { rewritten = rewritten_then source a function b raw e p.rewritten; pairs_are = p.pairs_are }
rewritten_with_ok source a function b raw pairs (Err x) e p = tt

-- the list was empty before
pub rewritten_with :
    (source : ParsedModule) (function : ℕ) (b : BodyAt) (raw : List ℕ) (old new : List Pair) (r : IsRewritten source function b raw) → old ≡ [] → new ≡ old ++ r.pairs →
    IsRewrittenWith source function b raw new
rewritten_with source function b raw old new r none e = record { rewritten = r; pairs_are = e ∙ ap (λ l. l ++ r.pairs) none }

-- whatever its pairs are
pub with_its_pairs : (source : ParsedModule) (function : ℕ) (b : BodyAt) (raw : List ℕ) (r : IsRewritten source function b raw) → IsRewrittenWith source function b raw r.pairs
with_its_pairs source function b raw r = record { rewritten = r; pairs_are = refl }

pub rewritten_with_then :
    (source a : ParsedModule) (function : ℕ) (b : BodyAt) (raw : List ℕ) (pairs : List Pair) → Extends source a → IsRewrittenWith a function b raw pairs →
    IsRewrittenWith source function b raw pairs
unfolding rewritten_then
rewritten_with_then source a function b raw pairs e p = record { rewritten = rewritten_then source a function b raw e p.rewritten; pairs_are = p.pairs_are }

-- of bytes and pairs of which something else is known
pub rewritten_to :
    {E R : Type 0} (source a : ParsedModule) (function : ℕ) (b : BodyAt) (wants : Bool) (goes : Output → Type 0) (r : Result R E) → Extends source a →
    OnOk r ((took : Output) × (pairs : List Pair) × IsRewrittenWith a function b took.bytes pairs × (wants ≡ true → took.pairs ≡ pairs) × goes took) →
    OnOk r ((took : Output) × (pairs : List Pair) × IsRewrittenWith source function b took.bytes pairs × (wants ≡ true → took.pairs ≡ pairs) × goes took)
rewritten_to source a function b wants goes (Ok x) e p = (p.0, p.1, rewritten_with_then source a function b p.0.bytes p.1 e p.2, p.3, p.4)
rewritten_to source a function b wants goes (Err x) e p = tt

-- of a number of bytes
pub measured_then :
    {E : Type 0} (source a : ParsedModule) (function : ℕ) (b : BodyAt) (r : Result Measured E) → Extends source a →
    IfOk r (λ m. (raw : List ℕ) × (pairs : List Pair) × IsRewrittenWith a function b raw pairs × (m.len ≡ length raw)) →
    IfOk r (λ m. (raw : List ℕ) × (pairs : List Pair) × IsRewrittenWith source function b raw pairs × (m.len ≡ length raw))
measured_then source a function b (Ok m) e p = (p.0, p.1, rewritten_with_then source a function b p.0 p.1 e p.2, p.3)
measured_then source a function b (Err x) e p = tt

-- no pairs are needed
pub not_wanted : (needed : Needed) → needed ≡ Nothing → wants_pairs needed ≡ true → ⊥
not_wanted needed e wanted = let no : false ≡ true = sym (ap wants_pairs e) ∙ wanted in cc

pub parsed_then :
    (source a now : ParsedModule) (function : ℕ) (b : BodyAt) (made : FunctionParts) → Extends source a → IsParsed a function b now made → IsParsed source function b now made
parsed_then source a now function b made e p = record {
  entered = entered_then source a now function b e p.entered;
  is_parsed = p.is_parsed;
}

pub parsed_ok :
    {E : Type 0} (source a now : ParsedModule) (function : ℕ) (b : BodyAt) (r : Result FunctionParts E) → Extends source a → IfOk r (IsParsed a function b now) →
    IfOk r (IsParsed source function b now)
parsed_ok source a now function b (Ok made) e p = parsed_then source a now function b made e p
parsed_ok source a now function b (Err x) e p = tt

pub accepted_ok :
    {E : Type 0} (source a now : ParsedModule) (function : ℕ) (b : BodyAt) (r : Result (Unit {0}) E) → Extends source a → OnOk r (IsAccepted a function b now) →
    OnOk r (IsAccepted source function b now)
accepted_ok source a now function b (Ok u) e p = record {
  entered = entered_then source a now function b e p.entered;
  tree = p.tree;
  accepted = p.accepted;
}
accepted_ok source a now function b (Err x) e p = tt

-- ---- a function that is changed

-- bytes and pairs that are appended to empty lists
pub written_alone :
    (by : EmitInput) (f : Function) (old new : List ℕ) (old_pairs new_pairs : List Pair) → old ≡ [] → old_pairs ≡ [] → AppendsRawBody by f old new (Some (old_pairs, new_pairs)) →
    IsRawBodyOf by f new new_pairs
written_alone by f old new old_pairs new_pairs e p a =
    let bytes : a.raw ≡ new = sym (a.appends ∙ ap (λ (l : List ℕ). l ++ a.raw) e) in
    let pairs : a.pairs ≡ new_pairs = sym (a.appends_pairs ∙ ap (λ (l : List Pair). l ++ a.pairs) p) in
    subst (λ (l : List ℕ). IsRawBodyOf by f l new_pairs) bytes (subst (λ (l : List Pair). IsRawBodyOf by f a.raw l) pairs a.is_raw_body)

pub changed :
    (changes : OneChange) (source a now : ParsedModule) (function : ℕ) (b : BodyAt) (made new : FunctionParts) (locals : List (ValType ℕ)) (raw : List ℕ) (pairs : List Pair) →
    Extends source a → IsParsed a function b now made → changes function made new now.module.locals locals →
    IsRawBodyOf (emit_input now.spaces.numbers (record now.module { locals = locals }) new) new.builder raw pairs →
    IsChangedWith changes source function b raw pairs
changed changes source a now function b made new locals raw pairs e p c r = record {
  now = now;
  parsed = made;
  is_parsed = parsed_then source a now function b made e p;
  changed = new;
  locals = locals;
  is_changed = c;
  is_raw_body = r;
}
