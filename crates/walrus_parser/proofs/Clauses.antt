-- The normal form of a legacy `try` so far, when the next clause closes its body or a handler.
use Rattle.std.specs.Prelude.{◌≡◌, ℕ, List, [], ◌∷◌, ◌++◌, map}
use Rattle.std.proofs.Common.{refl, ap, sym, subst, ◌∙◌}
use Rattle.std.proofs.lemmas.List.{append-nil, map-append}
use Rattle.std.proofs.lemmas.Grind.{flat_map-append}
use Rattle.walrus_ir.specs.declared.instr.Instr.TheVariants as instr
use Rattle.walrus_ir.specs.declared.control.Try.{Try}
use Rattle.walrus_ir.specs.declared.control.LegacyCatch.{LegacyCatch}
use Rattle.walrus_ir.specs.Unfolding.{LocatedInstr, handler_of, handlers, slots_in}
use Rattle.wasm_body.specs.Naming.{Occurrence}
use Rattle.wasm_body.specs.FunctionTree.{LegacyClause, Instruction}
use Rattle.wasm_body.specs.NormalForm.{instruction, name_at}
use Rattle.wasm_body.specs.InstructionTable.{operation_of, legacy_clause, clauses_of_try}
use Rattle.wasm_body.specs.TreeOfFunction.{with_targets, instruction_in}
use Rattle.wasm_body.specs.Parsing.Progress.{OpenConstruct}
use Rattle.walrus_context.specs.OpenConstructs.{opener_in, clauses_in}
use Rattle.walrus_context.specs.OpenFrames.{OpenFrame, changed_at, with_instr}
use Rattle.walrus_context.specs.Keeping.{IsTry, IsAppended}

-- ---- a clause is added to a legacy `try`

-- the `try` with one more clause
pub record GainsClause (x y : LocatedInstr) (clause : LegacyCatch) : Type 0 where
  pub old : Try
  pub new : Try
  pub was : x.0 ≡ instr.Try old
  pub is : y.0 ≡ instr.Try new
  pub same_body : new.seq ≡ old.seq
  pub clauses : new.catches ≡ old.catches ++ clause ∷ []
  pub same_location : y.1 ≡ x.1

-- its slots and its instruction in the tree, with one more clause
pub gained_places : (x y : LocatedInstr) (clause : LegacyCatch) → GainsClause x y clause → slots_in y.0 ≡ slots_in x.0 ++ handler_of clause
gained_places x y clause h =
    ap slots_in h.is
    ∙ (λ i. h.same_body i ∷ (ap handlers h.clauses ∙ flat_map-append handler_of h.old.catches (clause ∷ []) ∙ ap (λ ps. handlers h.old.catches ++ ps) (append-nil (handler_of clause))) i)
    ∙ ap (λ i. slots_in i ++ handler_of clause) (sym h.was)

pub gained_instruction : (around : List ℕ) (x y : LocatedInstr) (clause : LegacyCatch) (a : Occurrence) (cs : List LegacyClause) → GainsClause x y clause → instruction_in around x ≡ instruction (name_at a) cs →
    instruction_in around y ≡ instruction (name_at a) (cs ++ legacy_clause clause ∷ [])
gained_instruction around x y clause a cs h is =
    let opcode : with_targets around (operation_of y.0) ≡ with_targets around (operation_of x.0) = ap (λ i. with_targets around (operation_of i)) h.is ∙ ap (λ i. with_targets around (operation_of i)) (sym h.was) in
    let before : map legacy_clause h.old.catches ≡ cs = ap clauses_of_try (sym h.was) ∙ ap (λ (i : Instruction). i.clauses) is in
    let clauses : clauses_of_try y.0 ≡ cs ++ legacy_clause clause ∷ [] =
    ap clauses_of_try h.is ∙ ap (map legacy_clause) h.clauses ∙ map-append legacy_clause h.old.catches (clause ∷ []) ∙ ap (λ ds. ds ++ legacy_clause clause ∷ []) before in
    λ i. record {
      op = (opcode ∙ ap (λ (j : Instruction). j.op) is) i;
      clauses = clauses i;
      location = (h.same_location ∙ ap (λ (j : Instruction). j.location) is) i;
    }

-- The frame around has the construct's instruction with one more clause.
pub gains : (around before : List ℕ) (slot next : ℕ) (p q : OpenConstruct Occurrence) (x y : LocatedInstr) (clause : LegacyCatch) (fs gs outside : List OpenFrame) →
    (a : IsAppended around before slot p IsTry fs outside) → a.opener ≡ x → GainsClause x y clause → handler_of clause ≡ next ∷ [] → opener_in q ≡ opener_in p → clauses_in q ≡ clauses_in p ++ legacy_clause clause ∷ [] →
    gs ≡ changed_at 0 (with_instr y) outside → IsAppended around (before ++ slot ∷ []) next q IsTry gs outside
gains around before slot next p q x y clause fs gs outside a e h handler same clauses frames = record {
  opener = y;
  places = gained_places x y clause h ∙ ap (λ z. slots_in z ++ handler_of clause) (ap (λ (z : LocatedInstr). z.0) (sym e)) ∙ ap (λ ps. ps ++ handler_of clause) a.places ∙ ap (λ ps. (before ++ slot ∷ []) ++ ps) handler;
  is_instruction = gained_instruction around x y clause (opener_in p) (clauses_in p) h (subst (λ z. instruction_in around z ≡ instruction (name_at (opener_in p)) (clauses_in p)) e a.is_instruction)
      ∙ (λ i. instruction (name_at ((sym same) i)) ((sym clauses) i));
  is_opener = (h.new, h.is);
  frames = frames;
}

-- Adding a clause to frames: the innermost ends with a legacy `try`, or is unreachable.
abbrev pub AddsClause : (fs gs : List OpenFrame) → LegacyCatch → Type 0
AddsClause fs gs clause =
    (x : LocatedInstr) (outside : List OpenFrame) → fs ≡ changed_at 0 (with_instr x) outside → IsTry x.0 →
    (y : LocatedInstr) × GainsClause x y clause × (gs ≡ changed_at 0 (with_instr y) outside)

pub adds_within : (around before : List ℕ) (slot next : ℕ) (p q : OpenConstruct Occurrence) (clause : LegacyCatch) (fs gs outside : List OpenFrame) →
    IsAppended around before slot p IsTry fs outside → AddsClause fs gs clause → handler_of clause ≡ next ∷ [] → opener_in q ≡ opener_in p → clauses_in q ≡ clauses_in p ++ legacy_clause clause ∷ [] →
    IsAppended around (before ++ slot ∷ []) next q IsTry gs outside
adds_within around before slot next p q clause fs gs outside a adds handler same clauses =
    let added = adds a.opener outside a.frames a.is_opener in
    gains around before slot next p q a.opener added.0 clause fs gs outside a refl added.1 handler same clauses added.2
