-- The operator of an instruction, from its parts: the labels of a `br_table`, and the clauses of a `try_table`.
use Rattle.std.specs.Prelude.{◌≡◌, ℕ, List, [], ◌∷◌, length, map, Result, Ok, Err}
use Rattle.std.proofs.Common.{refl, sym, ap, ◌∙◌}
use Rattle.std.proofs.lemmas.List.{length-map}
use Rattle.walrus_ir.specs.Clauses.{Targets, Guarded}
use Rattle.wasm_numbers.specs.Results.{◌>>=◌, each, infallible}
use Rattle.walrus_ir.specs.declared.control.TryTableCatch.{TryTableCatch}
use Rattle.walrus_ir.specs.declared.val_type.InstrSeqType.{InstrSeqType}
use Rattle.walrus_ir.specs.declared.instr.Instr.{Instr}
use Rattle.walrus_ir.specs.declared.instr.Instr.TheVariants.{BrTable, TryTable}
use Rattle.wasm_operators.specs.declared.types.BlockType.{BlockType}
use Rattle.wasm_operators.specs.declared.types.Opcode.TheVariants.{Byte}
use Rattle.wasm_operators.specs.Immediates.{Table}
use Rattle.wasm_operators.specs.Operations.{CatchClause, Immediate, branch_table, clauses, block, operation, RawOperation}
use Rattle.wasm_body.specs.declared.error.EmitError.{EmitError}
use Rattle.wasm_body.specs.Bytes.{Numbers, numbers_in_32_bits, numbered_block, numbering, in_32_bits}
use Rattle.wasm_body.specs.FlatText.{exponent_of, then_by, with_block_type}
use Rattle.wasm_body.specs.Naming.{block_types}
use Rattle.wasm_body.specs.Translation.{Translation, translate, translate_clause, translate_immediates}
use Rattle.wasm_body.specs.TreeOfFunction.{target_in, to_targets}
use Rattle.wasm_body.specs.FunctionTree.{Target}
use Rattle.wasm_body.specs.InstructionTable.{PlacedImmediate, table_clause, operation_of}
use Rattle.wasm_body.proofs.Translation.Steps.{Leads, all_of, ok-infallible}
use Rattle.wasm_body.proofs.Translation.Translations.{LeadAll, lead_all, translate_leads}
use Rattle.walrus_emit_state.specs.TreeWriting.Labels.{numbered_table, numbered_clause, numbered_clauses}
use Rattle.walrus_to_operators.specs.TreeWriting.Operators.{numbered_operator}
use Rattle.walrus_emit_state.specs.TreeWriting.ScopeTables.{depth_in}

-- ---- any operator

-- from slots of sequences to depths, and from ids to numbers
abbrev from_places : Numbers → List ℕ → InstrSeqType → Translation ℕ (Unit {0}) ℕ BlockType EmitError
from_places to around type = record {
  index = (numbers_in_32_bits to).number_of;
  local = (numbers_in_32_bits to).local_number;
  label = depth_in around;
  handler = in_32_bits;
  outer = in_32_bits;
  number = in_32_bits;
  block = λ b. numbered_block to type;
  alignment = exponent_of;
  count = λ n. in_32_bits n >>= λ _. Ok tt;
}

same_number : {A : Type 0} (f : ℕ → A) (n q : ℕ) → (let r : Result ℕ ⊥ = Ok n in r) ≡ Ok q → f q ≡ f n
same_number f n q e = let same : n ≡ q = cc e in ap f (sym same)

same_target : {A : Type 0} (f : Target → A) (t q : Target) → (let r : Result Target ⊥ = Ok t in r) ≡ Ok q → f q ≡ f t
same_target f t q e = let same : t ≡ q = cc e in ap f (sym same)

module _ (to : Numbers) (around : List ℕ) (type : InstrSeqType) where
  abbrev by_target : Translation Target (Unit {0}) ℕ BlockType EmitError
  by_target = with_block_type (then_by (numbering to)) type

  abbrev by_place : Translation ℕ (Unit {0}) ℕ BlockType EmitError
  by_place = from_places to around type

  all_lead : LeadAll (to_targets around) by_target by_place
  all_lead = record {
    indices = λ space n q e. same_number (by_place.index space) n q e;
    locals = λ n q e. same_number by_place.local n q e;
    labels = λ place q e. same_target by_target.label (target_in around place) q e;
    handlers = λ n q e. same_number in_32_bits n q e;
    outers = λ n q e. same_number in_32_bits n q e;
    numbers = λ n q e. same_number in_32_bits n q e;
    alignments = λ n. refl;
    counts = λ n u e. refl;
  }

  abbrev with_opcode : Instr → Result (List (Immediate ℕ BlockType)) EmitError → Result RawOperation EmitError
  with_opcode i r = r >>= λ is. Ok (operation (operation_of i).opcode is)

  by_places : (i : Instr) → numbered_operator to around type i ≡ translate by_place (operation_of i)
  by_places i =
      let is : List PlacedImmediate = (operation_of i).immediates in
      let blocks = all_of (Leads (to_targets around).block by_target.block by_place.block) (λ b c e. refl) (block_types is) in
      let leads = lead_all (to_targets around) by_target by_place all_lead is blocks in
      let with_targets = translate_immediates (to_targets around) is in
      ap (with_opcode i) (translate_leads (to_targets around) by_target by_place is leads (infallible with_targets) (ok-infallible with_targets))

-- ---- the labels of a `br_table`

-- the operator with these labels, if they were found
abbrev pub table_operator : Result Table EmitError → Result RawOperation EmitError
table_operator r = r >>= λ t. Ok (operation (Byte 0x0e) (branch_table t.0 t.1 ∷ []))

-- the same from the parts of its labels
abbrev counted : Result ℕ EmitError → Result (Unit {0}) EmitError
counted r = r >>= λ n. Ok tt

abbrev table_by_parts : Result ℕ EmitError → Result (List ℕ) EmitError → Result ℕ EmitError → Result RawOperation EmitError
table_by_parts count labels default =
    ((counted count >>= λ u. labels >>= λ us. default >>= λ d. Ok (branch_table us d)) >>= λ i. Ok (i ∷ [])) >>= λ is.
    Ok (operation (Byte 0x0e) is)

table_is : (count : Result ℕ EmitError) (labels : Result (List ℕ) EmitError) (default : Result ℕ EmitError)
    → table_by_parts count labels default ≡ table_operator (count >>= λ n. labels >>= λ us. default >>= λ d. Ok (us, d))
table_is (Ok n) (Ok us) (Ok d) = refl
table_is (Ok n) (Ok us) (Err e) = refl
table_is (Ok n) (Err e) default = refl
table_is (Err e) labels default = refl

pub table_written : (to : Numbers) (around : List ℕ) (type : InstrSeqType) (i : Instr) (x : Targets) (r : Result Table EmitError)
    → i ≡ BrTable x → numbered_table around x ≡ r → numbered_operator to around type i ≡ table_operator r
table_written to around type i x r is labels =
    ap (numbered_operator to around type) is ∙ by_places to around type (BrTable x)
    ∙ table_is (in_32_bits (length x.blocks)) (each (depth_in around) x.blocks) (depth_in around x.default) ∙ ap table_operator labels

-- ---- the clauses of a `try_table`

each_after : {A B C E : Type 0} → (f : A → B) (g : B → Result C E) (xs : List A) → each g (map f xs) ≡ each (λ x. g (f x)) xs
each_after f g [] = refl
each_after f g (x ∷ xs) = ap (λ r. g (f x) >>= λ y. r >>= λ ys. Ok (y ∷ ys)) (each_after f g xs)

-- the operator with this block type and these clauses, if they were found
abbrev pub try_operator : Result BlockType EmitError → Result (List (CatchClause ℕ)) EmitError → Result RawOperation EmitError
try_operator type cs = type >>= λ b. cs >>= λ ds. Ok (operation (Byte 0x1f) (block b ∷ clauses ds ∷ []))

abbrev try_by_parts : Result BlockType EmitError → Result ℕ EmitError → Result (List (CatchClause ℕ)) EmitError → Result RawOperation EmitError
try_by_parts type count cs =
    ((type >>= λ b. Ok (block b)) >>= λ i. ((counted count >>= λ u. cs >>= λ ds. Ok (clauses ds)) >>= λ j. Ok (j ∷ [])) >>= λ js. Ok (i ∷ js)) >>= λ is.
    Ok (operation (Byte 0x1f) is)

try_is : (type : Result BlockType EmitError) (count : Result ℕ EmitError) (cs : Result (List (CatchClause ℕ)) EmitError)
    → try_by_parts type count cs ≡ try_operator type (count >>= λ n. cs)
try_is (Ok b) (Ok n) (Ok ds) = refl
try_is (Ok b) (Ok n) (Err e) = refl
try_is (Ok b) (Err e) cs = refl
try_is (Err e) count cs = refl

pub try_written : (to : Numbers) (around : List ℕ) (type : InstrSeqType) (i : Instr) (x : Guarded TryTableCatch) (r : Result (List (CatchClause ℕ)) EmitError)
    → i ≡ TryTable x → numbered_clauses to around x.catches ≡ r → numbered_operator to around type i ≡ try_operator (numbered_block to type) r
try_written to around type i x r is cs =
    let each_clause = translate_clause (from_places to around type) in
    ap (numbered_operator to around type) is ∙ by_places to around type (TryTable x)
    ∙ ap (λ n. try_by_parts (numbered_block to type) (in_32_bits n) (each each_clause (map table_clause x.catches))) (length-map x.catches table_clause)
    ∙ ap (λ ds. try_by_parts (numbered_block to type) (in_32_bits (length x.catches)) ds) (each_after table_clause each_clause x.catches)
    ∙ try_is (numbered_block to type) (in_32_bits (length x.catches)) (each (numbered_clause to around) x.catches)
    ∙ ap (try_operator (numbered_block to type)) cs
