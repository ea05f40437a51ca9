-- Why a tree that a parse made has no raw body.
use Rattle.std.proofs.Common.{◌≡◌, ◌+◌, ◌≤◌, ◌^◌, ℕ, List, [], length, Option, Some, None, refl, inl, inr}
use Rattle.std.specs.List.{AllByRecursion}
use Rattle.wasm_numbers.specs.Results.{some_or}
use Rattle.walrus_ir.specs.Types.{ModuleType}
use Rattle.wasm_body.specs.declared.error.EmitError.{EmitError}
use Rattle.wasm_body.specs.declared.error.EmitError.TheVariants.{UnnumberedLocal}
use Rattle.wasm_body.specs.SourceTree.{Body}
use Rattle.wasm_body.specs.Naming.{Environment, Occurrence}
use Rattle.wasm_body.specs.Parsing.Accepted.{HasSpelling, Lawful}
use Rattle.wasm_body.specs.NormalForm.{body_tree}
use Rattle.wasm_body.specs.LocalNumbers.{Local, ids_of, number_of_local, numbering_locals}
use Rattle.wasm_body.specs.EmissionFaults.{IsNumber, AreIdNumbers}
use Rattle.wasm_body.proofs.Bytes.Faults.{emission_faults, declaration_faults}
use Rattle.walrus_maps.specs.declared.ids_to_indices.IdsToIndices.{IdsToIndices}
use Rattle.walrus_numbering.specs.NumberMaps.{numbers_by}
use Rattle.walrus_numbering.proofs.FittingNumbers.{numbers_fit}
use Rattle.walrus_rewrite.specs.RawBodies.{EmitInput, HasNoRawBody, undeclared, unwritten, HasNoParsedBody}
use Rattle.walrus_rewrite.proofs.RawBodyLemmas.{few_locals, number_fits}

-- ---- new indices are numbers of 32 bits

pub are_id_numbers : (ms : List ModuleType) (out : IdsToIndices) → AreIdNumbers (numbers_by ms out [])
are_id_numbers ms out = (numbers_fit ms out []).ids

-- ---- locals that can be declared have numbers

local_fits : (args : List ℕ) (others : List Local) (id : ℕ) → length args + length others ≤ 2 ^ 32 → (o : Option ℕ) → number_of_local args (ids_of others) id ≡ o →
    IsNumber (some_or o UnnumberedLocal)
local_fits args others id few None e = tt
local_fits args others id few (Some n) e = number_fits args others few id n e

-- ---- the reasons

pub no_parsed_body : (env : Environment) (xs : List Occurrence) (b : Body Occurrence) → AllByRecursion HasSpelling xs → Lawful env xs b →
    (by : EmitInput) → AreIdNumbers by.to → (e : EmitError) → HasNoRawBody by (body_tree env b) e → HasNoParsedBody by (body_tree env b) e
no_parsed_body env xs b spelt lawful by ids e (undeclared (inl missing)) = record { has_none = undeclared (inl missing); is_of_parsed = tt }
no_parsed_body env xs b spelt lawful by ids e (undeclared (inr fault)) = record {
  has_none = undeclared (inr fault);
  is_of_parsed = declaration_faults by.to ids (length by.args) fault.others e fault.fault_is;
}
no_parsed_body env xs b spelt lawful by ids e (unwritten others ds declared_are declarations_are fault) =
    let few = few_locals by.to (length by.args) others ds declarations_are in
    record {
      has_none = unwritten others ds declared_are declarations_are fault;
      is_of_parsed =
          emission_faults env xs b spelt lawful (numbering_locals by.to by.args (ids_of others))
          (record { ids = ids; locals = λ id. local_fits by.args others id few (number_of_local by.args (ids_of others) id) refl }) e fault;
    }
