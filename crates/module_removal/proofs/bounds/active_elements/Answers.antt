use Rattle.std.proofs.Common.{ℕ, Bool, Some, None, ◌==◌, ◌%◌, refl, ap, ◌∙◌, ne_eqb}
use Rattle.wasm_operators.specs.declared.types.Space.TheVariants.{Tables}
use Rattle.module_removal.specs.CopiedParts.{item_at}
use Rattle.module_removal.specs.Gathered.{target_of}
use Rattle.module_removal.proofs.GatherLemmas.{target_read}
use Rattle.module_removal.proofs.bounds.active_elements.Goals as goal

pub returns-then-flags-ne0 : goal.returns-then-flags-ne0
returns-then-flags-ne0 c =
    let flags = c.in-Ok.value in
    let end = c.args.input.end in
    let rest = c.number.new.self.rest.now in (
      rest,
      target_read (λ flags. target_of Tables ((flags % 2) == 0) ((flags % 4) == 2)) end end c.args.input.rest.now rest rest flags None c.in-Ok.ensures.is refl
          (ap (λ (b : Bool). target_of Tables b ((flags % 4) == 2) end rest) (ne_eqb (flags % 2) 0 c.if-flags-ne0.true)),
    )

pub returns : goal.returns
returns c =
    let flags = c.in-Ok.value in
    let end = c.number.new.self.end in
    let rest = c.number.new.self.rest.now in
    let following = c.target.new.input.rest.now in (
      following,
      target_read (λ flags. target_of Tables ((flags % 2) == 0) ((flags % 4) == 2)) c.args.input.end end c.args.input.rest.now rest following flags
          (Some (item_at Tables c.in-Ok-target.value)) c.in-Ok.ensures.is c.in-Ok.ensures.same_end
          (ap (λ (n : ℕ). target_of Tables (n == 0) ((flags % 4) == 2) end rest) c.if-flags-ne0.false ∙ c.in-Ok-target.ensures.is),
    )
