-- On a body the machine's count of operators never runs out: with any greater bound the run is the same.
use Rattle.std.proofs.Common.{◌≡◌, ℕ, suc, List, [], ◌∷◌, map, refl, sym, ap, ◌∙◌}
use Rattle.wasm_body.specs.Control.{Control, control_of}
use Rattle.wasm_body.specs.SourceTree.{Sequence, Empty, Single, Wrapped, IfThen, IfElse, TryCatch, TryDelegate, Clauses, Ended, Catches, CatchesAll, Body, body_text}
use Rattle.wasm_body.specs.Machine.{Outcome, bounded_run, run}
use Rattle.wasm_body.specs.Places.{placed_from}
use Rattle.wasm_body.specs.TextLaws.{mark_named}
use Rattle.wasm_body.specs.ExecutionLaws.{controls, CountSuffices}
use Rattle.wasm_body.proofs.NormalForm.Rewritten.{Named}
use Rattle.wasm_body.proofs.Structure.Lifted.{controls_of, lifted_body}
use Rattle.wasm_body.proofs.Executions.Same.{Bound}
use Rattle.wasm_body.proofs.Executions.RewritesTo.{RewritesTo, empty, keep, wrapped, if_then, if_else, try_catch, try_delegate, ClausesRewriteTo, ended, catches_one, catches_all, runs_alike}

mutual
  to_itself : {A : Type 0} → (s : Sequence A) → RewritesTo s s
  to_itself Empty = empty
  to_itself (Single a action r) = keep (to_itself r)
  to_itself (Wrapped a w b e r) = wrapped (to_itself b) (to_itself r)
  to_itself (IfThen a b e r) = if_then (to_itself b) (to_itself r)
  to_itself (IfElse a b l c e r) = if_else (to_itself b) (to_itself c) (to_itself r)
  to_itself (TryCatch a b cs r) = try_catch (to_itself b) (to_themselves cs) (to_itself r)
  to_itself (TryDelegate a b e n r) = try_delegate (to_itself b) (to_itself r)

  to_themselves : {A : Type 0} → (cs : Clauses A) → ClausesRewriteTo cs cs
  to_themselves (Ended e) = ended
  to_themselves (Catches a t b cs) = catches_one (to_itself b) (to_themselves cs)
  to_themselves (CatchesAll a b e) = catches_all (to_itself b)

-- the run of a body with any bound on the operators of a turn
enough : {A : Type 0} → (b : Body A) (β : Bound A) (outcomes : List Outcome) (turns : ℕ)
    → bounded_run β.of turns (body_text b) [] outcomes ≡ run (body_text b) outcomes turns
enough b β o t = runs_alike b b (to_itself b.sequence) β o t

-- ---- by place

controls_placed : (i : ℕ) (cs : List Control) → controls_of (placed_from i cs) ≡ cs
controls_placed i [] = refl
controls_placed i (c ∷ cs) = ap (λ l. c ∷ l) (controls_placed (suc i) cs)

controls_named : (xs : List Named) → controls xs ≡ controls_of (map mark_named xs)
controls_named [] = refl
controls_named (x ∷ xs) = ap (λ l. control_of x.op ∷ l) (controls_named xs)

pub count_suffices : CountSuffices
count_suffices xs b hx bound h o t =
    let placed = placed_from 0 (controls xs) in
    let c = lifted_body b placed (controls_placed 0 (controls xs) ∙ (controls_named xs ∙ ap controls_of hx)) in
    ap (λ l. bounded_run bound t l [] o) (sym c.1) ∙ (enough c.0 (record { of = bound; suffices = h }) o t ∙ ap (λ l. run l o t) c.1)
