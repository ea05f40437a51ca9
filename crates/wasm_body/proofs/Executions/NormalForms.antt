-- The law of executions: the text of a normal form is the text of a right rewriting of the body.
use Rattle.std.proofs.Common.{◌≡◌, ℕ, suc, ◌+◌, List, [], ◌∷◌, length, map, Bool, true, false, Some, refl, sym, ap, ◌∙◌, subst, arith}
use Rattle.std.specs.Prelude.{◌&&◌}
use Rattle.walrus_ir.specs.Locations.{default_location}
use Rattle.wasm_body.specs.Control.{Action, Nop, Plain, Branch, ConditionalBranch, TableBranch, Return, Unreachable, Throw, ThrowRef, Rethrow, TailCall, Control, Does, control_of, with_control}
use Rattle.wasm_body.specs.SourceTree.{Sequence, Empty, Single, Wrapped, IfThen, IfElse, TryCatch, TryDelegate, Clauses, Ended, Catches, CatchesAll, text, Body}
use Rattle.wasm_body.specs.NormalForm.{Typing, balances, construct_type, normal, fate, typing_of, name_at, named_body}
use Rattle.wasm_body.specs.Naming.{NamedOperation}
use Rattle.wasm_body.specs.TextLaws.{IsNamedBody}
use Rattle.wasm_body.specs.RewrittenTree.{single_with_fate, is_empty_sequence, written_if, rewritten, rewritten_clauses, rewritten_body, rewritten_text}
use Rattle.wasm_body.proofs.NormalForm.Rewritten.{Named, emptied, second_holds}
use Rattle.wasm_body.proofs.NormalForm.NamedTexts.{has_text, text_body}
use Rattle.wasm_body.proofs.Bytes.LawfulTyped.{lawful_named}
use Rattle.wasm_body.specs.Machine.{Outcome, straight, run}
use Rattle.wasm_body.specs.Places.{show_run, run_by_place, shown_by}
use Rattle.wasm_body.specs.ExecutionLaws.{controls, NamedExecutionsKept, ExecutionsKept, RunsShowOperators, EmptyContinues}
use Rattle.wasm_body.proofs.Executions.RewritesTo.{RewritesTo, empty, drop_nop, keep, unreachable_after, wrapped, if_then, if_else, add_else, drop_else, try_catch, try_delegate, ClausesRewriteTo, ended, catches_one, catches_all, runs_alike}
use Rattle.wasm_body.proofs.Executions.Same.{the_count}
use Rattle.wasm_body.proofs.Executions.Natural.{shown_by-run}

-- ---- the rewriting of the normal form is right

single_rewrites : (a : Named) (action : Action) (r r' : Sequence Named) → RewritesTo r r'
    → RewritesTo (Single a action r) (single_with_fate (fate action) a action r')
single_rewrites a Nop r r' f = drop_nop f
single_rewrites a Plain r r' f = keep f
single_rewrites a (Branch n) r r' f = unreachable_after refl
single_rewrites a (ConditionalBranch n) r r' f = keep f
single_rewrites a (TableBranch ts d) r r' f = unreachable_after refl
single_rewrites a Return r r' f = unreachable_after refl
single_rewrites a Unreachable r r' f = unreachable_after refl
single_rewrites a (Throw t) r r' f = unreachable_after refl
single_rewrites a ThrowRef r r' f = unreachable_after refl
single_rewrites a (Rethrow n) r r' f = unreachable_after refl
single_rewrites a TailCall r r' f = keep f

added_rewrites : (t : Bool) (a e : Named) (b b' : Sequence Named) (l n : ℕ) (r r' : Sequence Named) → RewritesTo b b' → RewritesTo r r'
    → RewritesTo (IfThen a b e r) (written_if t a b' l Empty n r')
added_rewrites true a e b b' l n r r' f g = if_then f g
added_rewrites false a e b b' l n r r' f g = add_else f g

else_rewrites : (t : Bool) (a i e : Named) (b b' c c' : Sequence Named) (l n : ℕ) (r r' : Sequence Named) → (t ≡ true → c' ≡ Empty)
    → RewritesTo b b' → RewritesTo c c' → RewritesTo r r' → RewritesTo (IfElse a b i c e r) (written_if t a b' l c' n r')
else_rewrites true a i e b b' c c' l n r r' none f h g = drop_else f (subst (RewritesTo c) (none refl) h) g
else_rewrites false a i e b b' c c' l n r r' none f h g = if_else f h g

module _ (balanced : NamedOperation → Bool) where
  mutual
    pub rewritten_rewrites : (s : Sequence Named) → RewritesTo s (rewritten balanced s)
    rewritten_rewrites Empty = empty
    rewritten_rewrites (Single a action r) = single_rewrites a action r (rewritten balanced r) (rewritten_rewrites r)
    rewritten_rewrites (Wrapped a w b e r) = wrapped (rewritten_rewrites b) (rewritten_rewrites r)
    rewritten_rewrites (IfThen a b e r) =
        added_rewrites (balanced a.op) a e b (rewritten balanced b) e.location default_location r (rewritten balanced r)
        (rewritten_rewrites b) (rewritten_rewrites r)
    rewritten_rewrites (IfElse a b l c e r) =
        else_rewrites (balanced a.op && is_empty_sequence (rewritten balanced c)) a l e b (rewritten balanced b) c (rewritten balanced c) l.location e.location r (rewritten balanced r)
        (λ h. emptied (rewritten balanced c) (second_holds (balanced a.op) (is_empty_sequence (rewritten balanced c)) h))
        (rewritten_rewrites b) (rewritten_rewrites c) (rewritten_rewrites r)
    rewritten_rewrites (TryCatch a b cs r) = try_catch (rewritten_rewrites b) (clauses_rewrite cs) (rewritten_rewrites r)
    rewritten_rewrites (TryDelegate a b e n r) = try_delegate (rewritten_rewrites b) (rewritten_rewrites r)

    clauses_rewrite : (cs : Clauses Named) → ClausesRewriteTo cs (rewritten_clauses balanced cs)
    clauses_rewrite (Ended e) = ended
    clauses_rewrite (Catches a t b cs) = catches_one (rewritten_rewrites b) (clauses_rewrite cs)
    clauses_rewrite (CatchesAll a b e) = catches_all (rewritten_rewrites b)

-- ---- whatever values are shown for the operators of two bodies

shown_alike : {B : Type 0} → (v : Named → B) (b c : Body Named) → RewritesTo b.sequence c.sequence → (xs ys : List Named)
    → IsNamedBody xs b → IsNamedBody ys c
    → (outcomes : List Outcome) (turns : ℕ) → shown_by (map v xs) (run_by_place (controls xs) outcomes turns)
    ≡ shown_by (map v ys) (run_by_place (controls ys) outcomes turns)
shown_alike v b c f xs ys hx hy o t =
    let control : Named → Control = λ x. control_of x.op in
    shown_by-run control v xs o t
    ∙ (ap (λ l. show_run (λ a. Some (v a)) (run l o t)) hx
    ∙ (ap (show_run (λ a. Some (v a))) (runs_alike b c f the_count o t)
    ∙ (ap (λ l. show_run (λ a. Some (v a)) (run l o t)) (sym hy)
    ∙ sym (shown_by-run control v ys o t))))

-- ---- the law

pub named_executions_kept : NamedExecutionsKept
named_executions_kept m xs b hx h =
    let ys = rewritten_text m b in
    let c = rewritten_body m b in
    let rewrites = rewritten_rewrites (λ o. balances m (construct_type m o)) b.sequence in
    let hy = text_body m xs b hx h in
    record {
      text = ys;
      is_text = has_text m xs b hx h;
      alike = record {
        operators = λ o t. shown_alike (λ x. x.op) b c rewrites xs ys hx hy o t;
        locations = λ o t. shown_alike (λ x. x.location) b c rewrites xs ys hx hy o t;
      };
    }

pub executions_kept : ExecutionsKept
executions_kept env xs b spelt lawful =
    let named = lawful_named env xs b spelt lawful in named_executions_kept (typing_of env) (map name_at xs) (named_body b) named.0 named.1

pub runs_by_place : RunsShowOperators
runs_by_place xs o t = record {
  operators = shown_by-run (λ x. control_of x.op) (λ x. x.op) xs o t;
  locations = shown_by-run (λ x. control_of x.op) (λ x. x.location) xs o t;
}

-- ---- a sequence whose normal form is empty

pub empty_continues : EmptyContinues
empty_continues m Empty h again count k ls o = let e : 0 + count ≡ count = omega arith in ap (λ n. straight again n k ls o) e
empty_continues m (Single a Nop r) h again count k ls o =
    let e : suc (length (text r [])) + count ≡ suc (length (text r []) + count) = omega arith in
    ap (λ n. straight again n (with_control a (Does Nop) ∷ text r k) ls o) e ∙ empty_continues m r h again count k ls o
empty_continues m (Single a _ r) h again count k ls o = absurd (cc h)
empty_continues m (Wrapped a w b e r) h again count k ls o = absurd (cc h)
empty_continues m (IfThen a b e r) h again count k ls o = absurd (cc h)
empty_continues m (IfElse a b l c e r) h again count k ls o = absurd (cc h)
empty_continues m (TryCatch a b cs r) h again count k ls o = absurd (cc h)
empty_continues m (TryDelegate a b e n r) h again count k ls o = absurd (cc h)
