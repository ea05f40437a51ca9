use Rattle.std.proofs.Common.{◌≡◌, ℕ, suc, ◌<◌, length, get_or, List, [], ◌∷◌, ◌++◌, Some, slice_get, sym, ap, subst, arith, length-append}
use Rattle.reaching.specs.declared.graph.Edge.{Edge}
use Rattle.reaching.specs.Chains.{IsLastFrom}
use Rattle.reaching.proofs.Chains.{last_added, before_added}
use Rattle.reaching.proofs.graph.Graph.add.Goals as goal

pub invariant_of-self : goal.invariant_of-self
invariant_of-self c =
    let old = c.args.self.now in
    let same = sym c.in_err-push.ensures.items in
    record {
      last_of_item = subst (λ es. (a : ℕ) → IsLastFrom es a (length es) (get_or old.last.items a 0)) same old.last_of_item;
      before_edge = subst (λ es. (k : ℕ) (e : Edge) → slice_get es k ≡ Some e → IsLastFrom es e.from k e.before) same old.before_edge;
    }

pub invariant_of-self-2 : goal.invariant_of-self-2
invariant_of-self-2 c =
    let old = c.args.self.now in
    let es = old.edges.items in
    let edge : Edge = record { from = c.args.from; to = c.args.to; before = c.last_of-before.result } in
    let pushed : c.push.new.self.items ≡ es ++ edge ∷ [] = c.in_ok-push.ensures.items in
    let limit : length c.push.new.self.items ≡ suc (length es) = omega (arith, ap length pushed, length-append es (edge ∷ [])) in
    let size : c.len.result ≡ suc (length es) = omega (arith, c.len.ensures, c.push.new.self.ok.0, limit) in
    let last : IsLastFrom es c.args.from (length es) c.last_of-before.result =
    subst (λ n. IsLastFrom es c.args.from (length es) n) (sym c.last_of-before.ensures) (old.last_of_item c.args.from) in
    let within : c.args.from < length old.last.items = omega (arith, c.if-from-items.false, c.len-items.ensures, old.last.ok.0) in
    record {
      last_of_item = last_added es c.push.new.self.items edge old.last.items _ c.len.result pushed limit size within old.last_of_item;
      before_edge = before_added es c.push.new.self.items edge pushed last old.before_edge;
    }
