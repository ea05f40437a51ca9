use Rattle.std.proofs.Common.{Result, Ok, Err, OnOk, ◌∙◌, arith}
use Rattle.std.proofs.lemmas.List.{take_all}
use Rattle.location_pairs.proofs.unpacking.unpack.Goals as goal

on_ok : {A E : Type 0} (r : Result A E) (P Q : Type 0) → (P → Q) → OnOk r P → OnOk r Q
on_ok (Ok x) P Q f h = f h
on_ok (Err e) P Q f h = tt

pub returns-clause-pairs : goal.returns-clause-pairs
returns-clause-pairs c = λ ps h e.
    on_ok c.unpack_some.result _ _ (λ same. same ∙ take_all 18446744073709551615 ps (omega (arith, h.0))) (c.unpack_some.ensures.some ps (c.new.ensures ps h e))
