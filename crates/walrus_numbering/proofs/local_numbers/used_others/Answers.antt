use Rattle.std.proofs.Common.{[], ◌∷◌, ◌++◌, Ok, append-nil, cond, not, sym, ap, ◌∙◌, inr}
use Rattle.std.proofs.lemmas.Map.Iter.{rest_more}
use Rattle.std.specs.Map.Iter.{deref}
use Rattle.walrus_numbering.specs.EmittedLocals.{unnumbered}
use Rattle.walrus_maps.proofs.Listed.{after_these}
use Rattle.walrus_numbering.proofs.LocalNumbering.{found_apart, other_skipped, other_found, other_unknown}
use Rattle.walrus_numbering.proofs.local_numbers.used_others.Goals as goal

pub returns-in-None-get-clause-err : goal.returns-in-None-get-clause-err
returns-in-None-get-clause-err c =
    let first = rest_more deref c.loop-id.id-iterator c.next.new.self c.next.result c.in-Some.id c.in-Some.is c.next.ensures.steps in
    inr (other_unknown c.args.locals.now c.args.numbers.now.entries c.in-Some.id.now c.next.new.self c.loop-id.id-iterator c.loop-id.others.items _ first
    (sym c.contains_key.ensures ∙ c.if-not-contains_key.true) (sym c.get.ensures ∙ c.in-None-get.is) c.loop-id.invariant.2)

pub loop-id-preserved-else-is_err : goal.loop-id-preserved-else-is_err
loop-id-preserved-else-is_err c =
    let first = rest_more deref c.loop-id.id-iterator c.next.new.self c.next.result c.in-Some.id c.in-Some.is c.next.ensures.steps in (
      tt,
      tt,
      other_found c.args.locals.now c.args.numbers.now.entries c.in-Some.id.now c.in-Some-get.ty c.next.new.self c.loop-id.id-iterator c.loop-id.others.items c.push.new.self.items _ first
          (sym c.contains_key.ensures ∙ c.if-not-contains_key.true) (sym c.get.ensures ∙ c.in-Some-get.is)
          (c.push.ensures.items ∙ ap (λ b. cond b (c.loop-id.others.items ++ (c.in-Some-get.ty, c.in-Some.id.now) ∷ []) c.loop-id.others.items) (c.is_err.ensures.negation ∙ ap not c.if-is_err.false)) c.loop-id.invariant.2,
    )

pub loop-id-preserved : goal.loop-id-preserved
loop-id-preserved c =
    let first = rest_more deref c.loop-id.id-iterator c.next.new.self c.next.result c.in-Some.id c.in-Some.is c.next.ensures.steps in (
      tt,
      tt,
      other_skipped c.args.locals.now c.args.numbers.now.entries c.in-Some.id.now c.next.new.self c.loop-id.id-iterator c.loop-id.others.items _ first
          (sym c.contains_key.ensures ∙ c.if-not-contains_key.false) c.loop-id.invariant.2,
    )

pub returns-clause-apart : goal.returns-clause-apart
returns-clause-apart c =
    let found = c.loop-id.others.items in
    let whole = sym c.loop-id.invariant.2
    ∙ (ap (λ ids. after_these found (unnumbered c.args.locals.now c.args.numbers.now.entries ids)) c.in-None.ensures.steps.0 ∙ ap Ok (append-nil found)) in
    found_apart c.args.locals.now c.args.numbers.now.entries c.args.used.now.keys found c.into_iter-id-iterator.ensures.into_iter_gives.3 whole
