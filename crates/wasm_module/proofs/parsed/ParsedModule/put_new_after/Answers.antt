use Rattle.std.proofs.Common.{ℕ, OnOk, subst}
use Rattle.wasm_module.specs.WrittenModules.{Puts, new_contents_in, between, FitBetween}
use Rattle.wasm_module.proofs.WritingLemmas.{if_so}
use Rattle.wasm_module.proofs.parsed.ParsedModule.put_new_after.Goals as goal

pub returns-clause-written : goal.returns-clause-written
returns-clause-written g c = λ all m.
    let contents = g.W.Write.contents in
    if_so c.put_between.result c.put_between.ensures.written (λ end puts.
    subst (λ (n : ℕ). Puts (contents c.args.out.now) (contents c.put_between.new.out) c.args.at end (between c.args.rank n (new_contents_in c.args.rewritten.now)))
    (c.in_ok-next.ensures all m) puts)

pub returns-clause-fits : goal.returns-clause-fits
returns-clause-fits g c = λ all m.
    subst (λ (n : ℕ). OnOk c.put_between.result (FitBetween c.args.rank n (new_contents_in c.args.rewritten.now))) (c.in_ok-next.ensures all m)
    c.put_between.ensures.fits
