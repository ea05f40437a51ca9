use Rattle.std.proofs.Common.{◌≡◌, ℕ, [], ◌∷◌, ◌++◌, ◌||◌, ◌==◌, cond, not, sym, ap, subst, ◌∙◌, arith}
use Rattle.walrus_ir.specs.Unfolding.{among}
use Rattle.walrus_facts.specs.Marking.{is_marked}
use Rattle.walrus_flat.specs.UsedMarks.{is_apart, AreIdsBelow}
use Rattle.walrus_flat.specs.UsedLocals.{has_local}
use Rattle.walrus_flat.proofs.CheckedOperators.{put_one}
use Rattle.walrus_flat.proofs.UsedLocals.{taken_away, others_more, marked_more, apart_last, below_more}
use Rattle.walrus_flat.proofs.used_locals.UsedLocals.add_unmarked.Goals as goal

pub invariant_of-self-then-mark_below : goal.invariant_of-self-then-mark_below
invariant_of-self-then-mark_below c =
    let old = c.args.self.now in
    let ids = old.listed.items in
    let id = c.args.local in
    let after = c.mark_below.new.marks.items in
    let pushed : c.push.new.self.items ≡ ids ++ id ∷ [] =
    c.push.ensures.items ∙ ap (λ b. cond b (ids ++ id ∷ []) ids) (c.is_err.ensures.negation ∙ ap not c.if-is_err.false) in
    let puts = subst (λ k. (x : ℕ) → is_marked after x ≡ ((x == k) || is_marked old.marks.items x)) c.index.ensures c.if-mark_below.ensures.marked in
    record {
      are_listed = λ x. marked_more id ids old.marks.items after old.are_listed puts x ∙ ap (among x) (sym pushed);
      apart = ap is_apart pushed ∙ apart_last id ids (sym (old.are_listed id) ∙ c.requires) old.apart;
      below = subst (AreIdsBelow _) (sym pushed) (below_more id old.reach _ ids old.below (omega arith) (omega arith));
    }

pub returns-in-Ok-clause-done : goal.returns-in-Ok-clause-done
returns-in-Ok-clause-done c =
    let old = c.args.self.now in
    let ids = old.listed.items in
    let id = c.args.local in
    let pushed : c.push.new.self.items ≡ ids ++ id ∷ [] =
    c.push.ensures.items ∙ ap (λ b. cond b (ids ++ id ∷ []) ids) (c.is_err.ensures.negation ∙ ap not c.if-is_err.false) in
    let popped = taken_away id _ ids c.push.new.self.items c.pop.new.self.items pushed (sym c.push.new.self.ok.0) c.pop.ensures.rest in
    λ t x.
    ap (λ ks. among x ks || has_local c.insert.new.self x) popped
    ∙ others_more c.args.local old.listed.items old.others c.insert.new.self (λ y. put_one old.others c.insert.new.self c.args.local y (c.in-Ok.ensures.updates.0 y)) x
