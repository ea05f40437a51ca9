-- The laws of writing operator by operator: what is written is the text of the rewritten body, and so the text of the tree of the
-- body; and the locals that are named are those of the tree.
use Rattle.std.specs.Prelude.{◌≡◌, List, [], ◌∷◌, ◌++◌, map, Bool, Ok, Err}
use Rattle.wasm_numbers.specs.Results.{gather}
use Rattle.wasm_operators.specs.Operations.{RawOperation}
use Rattle.wasm_body.specs.declared.error.EmitError.{EmitError}
use Rattle.wasm_body.specs.Control.{Control, Marked}
use Rattle.wasm_body.specs.Translation.{Located}
use Rattle.wasm_body.specs.SourceTree.{Body, body_text}
use Rattle.wasm_body.specs.Naming.{NamedOperation}
use Rattle.wasm_body.specs.NormalForm.{Typing, balances, construct_type, normal_form}
use Rattle.wasm_body.specs.RewrittenTree.{rewritten_body_by, rewritten_text}
use Rattle.wasm_body.specs.Bytes.{Numbers, numbered_text}
use Rattle.wasm_body.specs.LocalNumbers.{locals_of}
use Rattle.wasm_body.specs.Typed.{AreTyped}
use Rattle.wasm_body.specs.TextLaws.{mark_named, IsNamedBody}
use Rattle.wasm_body.specs.Flat.{Named, FlatState, first_state, written_at, after, flat, numbered_at_location, IsWrittenSo, Unreachability, first_unreachability, locals_read}

-- For all types that are balanced, what is written of a body's operators is the text of the rewritten body.
abbrev pub FlatIsRewritten : Type 0
FlatIsRewritten = (balanced : NamedOperation → Bool) (b : Body Named) → flat balanced first_state (body_text b) ≡ body_text (rewritten_body_by balanced b)

-- By the types of a module, it is the text of the normal form.
abbrev pub FlatIsText : Type 0
FlatIsText =
    (m : Typing) (xs : List Named) (b : Body Named) → IsNamedBody xs b →
    map (λ (x : Marked Named). x.shown) (flat (λ o. balances m (construct_type m o)) first_state (map mark_named xs)) ≡ rewritten_text m b

-- With numbers, each operator by itself gives the operators of the tree as they are encoded, or the first fault.
abbrev pub FlatIsNumbered : Type 0
FlatIsNumbered =
    (m : Typing) (xs : List Named) (b : Body Named) → IsNamedBody xs b → AreTyped m xs → (to : Numbers) →
    numbered_text to (normal_form m b) ≡ gather (map (numbered_at_location to m) (flat (λ o. to.balanced (construct_type m o)) first_state (map mark_named xs)))

-- The locals that live operators name, in order, are those that the tree names.
abbrev pub LocalsReadAreNamed : Type 0
LocalsReadAreNamed =
    (m : Typing) (xs : List Named) (b : Body Named) → IsNamedBody xs b → locals_read first_unreachability (map mark_named xs) ≡ locals_of (normal_form m b)

-- After a front of the operators, what is written of one more follows; and its fault is that of the whole.
abbrev pub OneWrittenMore : Type 0
OneWrittenMore =
    (to : Numbers) (m : Typing) (balanced : NamedOperation → Bool) (read : List (Marked Named)) (s : FlatState) (written : List (Located RawOperation)) →
    IsWrittenSo to m balanced read s written → (x : Marked Named) →
    ((zs : List (Located RawOperation)) → gather (map (numbered_at_location to m) (written_at s x)) ≡ Ok zs → IsWrittenSo to m balanced (read ++ x ∷ []) (after balanced s x) (written ++ zs))
    × ((e : EmitError) → gather (map (numbered_at_location to m) (written_at s x)) ≡ Err e → (rest : List (Marked Named)) →
    gather (map (numbered_at_location to m) (flat balanced first_state (read ++ x ∷ rest))) ≡ Err e)

-- ---- other locations

-- an operator without its location
abbrev pub without_location : Marked Named → NamedOperation × Control
without_location x = (x.shown.op, x.control)

-- Which fault of writing is the first doesn't depend on locations.
abbrev pub FaultsAnywhere : Type 0
FaultsAnywhere =
    (to : Numbers) (m : Typing) (balanced : NamedOperation → Bool) (xs ys : List (Marked Named)) → map without_location xs ≡ map without_location ys → (e : EmitError) →
    gather (map (numbered_at_location to m) (flat balanced first_state xs)) ≡ Err e → gather (map (numbered_at_location to m) (flat balanced first_state ys)) ≡ Err e

-- Nor do the locals that are named.
abbrev pub LocalsAnywhere : Type 0
LocalsAnywhere = (xs ys : List (Marked Named)) (s : Unreachability) → map without_location xs ≡ map without_location ys → locals_read s xs ≡ locals_read s ys
