use Rattle.std.proofs.Common.{ℕ, Bool, Some, None, not, ◌==◌, refl, ap, ◌∙◌, ne_eqb}
use Rattle.wasm_operators.specs.declared.types.Space.TheVariants.{Memories}
use Rattle.module_removal.specs.CopiedParts.{item_at}
use Rattle.module_removal.specs.Gathered.{target_of}
use Rattle.module_removal.proofs.GatherLemmas.{target_read}
use Rattle.module_removal.proofs.bounds.active_data.Goals as goal

pub returns-then-flags-eq1 : goal.returns-then-flags-eq1
returns-then-flags-eq1 c =
    let flags = c.in-Ok.value in
    let end = c.args.input.end in
    let rest = c.number.new.self.rest.now in (
      rest,
      target_read (λ flags. target_of Memories (not (flags == 1)) (flags == 2)) end end c.args.input.rest.now rest rest flags None c.in-Ok.ensures.is refl
          (ap (λ (n : ℕ). target_of Memories (not (n == 1)) (flags == 2) end rest) c.if-flags-eq1.true),
    )

pub returns : goal.returns
returns c =
    let flags = c.in-Ok.value in
    let end = c.number.new.self.end in
    let rest = c.number.new.self.rest.now in
    let following = c.target.new.input.rest.now in (
      following,
      target_read (λ flags. target_of Memories (not (flags == 1)) (flags == 2)) c.args.input.end end c.args.input.rest.now rest following flags
          (Some (item_at Memories c.in-Ok-target.value)) c.in-Ok.ensures.is c.in-Ok.ensures.same_end
          (ap (λ (b : Bool). target_of Memories (not b) (flags == 2) end rest) (ne_eqb flags 1 c.if-flags-eq1.false) ∙ c.in-Ok-target.ensures.is),
    )
