-- Steps that are repeated, and one more.
use Rattle.std.proofs.Common.{◌≡◌, ℕ, zero, suc, List, Result, Ok, refl, ap, ◌∙◌}
use Rattle.wasm_numbers.specs.Results.{◌>>=◌}
use Rattle.wasm_numbers.proofs.ResultLemmas.{bind_ok, ok_same}
use Rattle.wasm_sections.specs.declared.fault.ModuleError.{ModuleError}
use Rattle.wasm_sections.specs.Parts.{Part, repeated}

pub repeated_more :
    {A : Type 0} (step : A → Part A) (count : ℕ) (first now next : A) (end : ℕ) (text rest following : List ℕ) →
    repeated step count first end text ≡ Ok (now, rest) → step now end rest ≡ Ok (next, following) →
    repeated step (suc count) first end text ≡ Ok (next, following)
unfolding repeated
repeated_more {A} step zero first now next end text rest following e h =
    let same = ok_same (first, text) (now, rest) e in
    ap (λ (x : A × List ℕ). step x.0 end x.1 >>= λ y. repeated step zero y.0 end y.1) same
    ∙ ap (λ (r : Result (A × List ℕ) ModuleError). r >>= λ y. repeated step zero y.0 end y.1) h
repeated_more {A} step (suc n) first now next end text rest following e h =
    let x = bind_ok (step first end text) (λ y. repeated step n y.0 end y.1) (now, rest) e in
    ap (λ (r : Result (A × List ℕ) ModuleError). r >>= λ y. repeated step (suc n) y.0 end y.1) x.1
    ∙ repeated_more step n x.0.0 now next end x.0.1 rest following x.2 h

pub no_step : {A : Type 0} (step : A → Part A) (first : A) (end : ℕ) (text : List ℕ) → repeated step 0 first end text ≡ Ok (first, text)
unfolding repeated
no_step step first end text = refl
