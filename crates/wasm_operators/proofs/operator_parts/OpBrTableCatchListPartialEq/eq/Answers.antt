use denote.Signature.{static_lft}
use Rattle.std.proofs.Common.{◌≡◌, Bool, true, sym, ◌∙◌}
use Rattle.std.specs.Prelude.{◌&&◌}
use Rattle.wasm_operators.specs.declared.types.Opcode.{Opcode}
use Rattle.wasm_operators.specs.Meaning.{meaning}
use Rattle.wasm_operators.specs.Parts.{ListedImmediates, parts_of}
use Rattle.wasm_operators.specs.contracts.types.OpcodePartialEq.TheImpl.{ghosts as opcode_ghosts}
use Rattle.wasm_operators.specs.contracts.immediates.ImmediatesPartialEq.TheImpl.{ghosts as immediates_ghosts}
use Rattle.wasm_operators.specs.contracts.branch_table.BrTable.{the_row as table_row}
use Rattle.wasm_operators.specs.contracts.branch_table.BrTablePartialEq.TheImpl.{ghosts as table_ghosts, dict as table_dict}
use Rattle.wasm_operators.specs.contracts.catch_list.CatchList.{the_row as clauses_row}
use Rattle.wasm_operators.specs.contracts.catch_list.CatchListPartialEq.TheImpl.{ghosts as clauses_ghosts, dict as clauses_dict}
use Rattle.wasm_operators.proofs.operator_parts.OpBrTableCatchListPartialEq.eq.Goals as goal

-- If the opcodes are the same, the immediates are compared.
both_parts : {O I : Type 0} (f : O → O → Bool) (g : I → I → Bool) (a b x y : O × I) → a ≡ x → b ≡ y → (r : Bool) → f a.0 b.0 ≡ true → r ≡ g a.1 b.1
    → r ≡ (f x.0 y.0 && g x.1 y.1)
both_parts f g a b x y p q r opcodes h = h ∙ (sym (λ i. opcodes i && g a.1 b.1) ∙ (λ i. f (p i).0 (q i).0 && g (p i).1 (q i).1))

pub returns-then-eq : goal.returns-then-eq
returns-then-eq c =
    let f : Opcode → Opcode → Bool = opcode_ghosts.eq in
    let g : ListedImmediates → ListedImmediates → Bool = (immediates_ghosts (table_row static_lft) (clauses_row static_lft) table_ghosts table_dict clauses_ghosts clauses_dict).eq in
    both_parts f g c.parts-opcode.result c.parts-other_opcode.result (parts_of (meaning c.args.self.now)) (parts_of (meaning c.args.other.now))
    c.parts-opcode.ensures.exact c.parts-other_opcode.ensures.exact c.eq-then-eq.result (sym c.eq.ensures ∙ c.if-eq.true) c.eq-then-eq.ensures
