-- The laws that the proofs of both passes rest on.
use Rattle.std.specs.Prelude.{◌≡◌, ℕ, List, ◌++◌, length, map, Bool, Result, Ok, Err}
use Rattle.std.specs.List.{AllByRecursion}
use Rattle.walrus_ir.specs.declared.val_type.InstrSeqType.{InstrSeqType}
use Rattle.wasm_types.specs.declared.val_type.ValType.{ValType}
use Rattle.wasm_numbers.specs.Results.{gather}
use Rattle.walrus_ir.specs.Unfolding.{among}
use Rattle.wasm_operators.specs.Operations.{RawOperation}
use Rattle.wasm_operators.specs.Spelling.{Spells}
use Rattle.wasm_encode.specs.Declarations as encoded
use Rattle.wasm_body.specs.declared.error.EmitError.{EmitError}
use Rattle.wasm_body.specs.SourceTree.{Body}
use Rattle.wasm_body.specs.Frames.{SequenceFrame}
use Rattle.wasm_body.specs.Translation.{translate, Located}
use Rattle.wasm_body.specs.Naming.{Environment, NamedOperation, Occurrence, naming}
use Rattle.wasm_body.specs.NormalForm.{typing_of, construct_type, body_tree}
use Rattle.wasm_body.specs.Bytes.{Numbers, bytes_of}
use Rattle.wasm_body.specs.Pairs.{pairs_from}
use Rattle.wasm_body.specs.LocalNumbers.{Local, AreDeclared, declared, ids_of, numbering_locals}
use Rattle.wasm_body.specs.LocationLaws.{BalanceAlike}
use Rattle.wasm_body.specs.EmissionFaults.{AreIdNumbers}
use Rattle.wasm_body.specs.Parsing.Accepted.{HasSpelling, Lawful}
use Rattle.wasm_body.specs.Flat.{first_state, flat, renumbering, numbered_at_location, first_unreachability, locals_read}
use Rattle.wasm_renumber.specs.Changes.{changed_operator}
use Rattle.walrus_rewrite.specs.RawBodies.{EmitInput, IsRawBody, HasNoParsedBody}
use Rattle.walrus_rewrite.specs.RewrittenBodies.{KeepsSource}
use Rattle.walrus_flat.specs.Checked.{marks}
use Rattle.walrus_flat.specs.Written.{writing_changes}

-- An operator with its indices replaced by the numbers of their ids is its name with numbers.
abbrev pub RenumbersNamed : Type 0
RenumbersNamed =
    (env : Environment) (fs : List (SequenceFrame Occurrence)) (o : RawOperation) (text : List ℕ) (named : NamedOperation) → Spells o text →
    translate (naming env fs) o ≡ Ok named → (to : Numbers) (t : InstrSeqType) →
    changed_operator (writing_changes env.id_of env.local_of to t) o ≡ translate (renumbering to t) named

-- the operators that are written of these, as they are encoded, or the first fault
abbrev pub written_of : Environment → Numbers → List Occurrence → Result (List (Located RawOperation)) EmitError
written_of env to xs =
    let m = typing_of env in
    gather (map (numbered_at_location to m) (flat (λ o. to.balanced (construct_type m o)) first_state (marks xs)))

-- whether a live operator names a local
abbrev pub reads_local : List Occurrence → ℕ → Bool
reads_local xs id = among id (locals_read first_unreachability (marks xs))

-- The raw body, from its parts.
abbrev pub HasRawBody : Type 0
HasRawBody =
    (env : Environment) (xs : List Occurrence) (b : Body Occurrence) → AllByRecursion HasSpelling xs → Lawful env xs b → (by : EmitInput) →
    BalanceAlike (typing_of env) by.to → (others : List Local) (ds : List (ℕ × ValType ℕ)) → AreDeclared by.types by.args (reads_local xs) others →
    declared by.to (length by.args) others ≡ Ok ds → (ys : List (Located RawOperation)) →
    written_of env (numbering_locals by.to by.args (ids_of others)) xs ≡ Ok ys →
    IsRawBody by (body_tree env b) (encoded.declaration_bytes ds ++ bytes_of ys) (pairs_from (length (encoded.declaration_bytes ds)) ys)
    × KeepsSource env xs b (pairs_from (length (encoded.declaration_bytes ds)) ys)

-- Why there is none, if the locals can be declared.
abbrev pub HasNoBodyFor : Type 0
HasNoBodyFor =
    (env : Environment) (xs : List Occurrence) (b : Body Occurrence) → AllByRecursion HasSpelling xs → Lawful env xs b → (by : EmitInput) →
    AreIdNumbers by.to → (others : List Local) (ds : List (ℕ × ValType ℕ)) → AreDeclared by.types by.args (reads_local xs) others →
    declared by.to (length by.args) others ≡ Ok ds → (e : EmitError) →
    written_of env (numbering_locals by.to by.args (ids_of others)) xs ≡ Err e → HasNoParsedBody by (body_tree env b) e
