-- A subsection is its id, its size and its contents.
use Rattle.std.proofs.Common.{◌≡◌, ℕ, ◌∷◌, ◌++◌, length, Ok, ap, ◌∙◌}
use Rattle.wasm_numbers.specs.Numbers.{u32}
use Rattle.wasm_sections.specs.Views.{first, later}
use Rattle.wasm_sections.proofs.input.Input.subsection.Goals as goal

pub returns-then-next-id : goal.returns-then-next-id
returns-then-next-id c =
    let contents = c.in_ok-contents.contents.rest.now in
    let sized = c.byte.new.self.rest.now in
    let following = c.part.new.self.rest.now in
    let is = c.in_ok-next.ensures.value ∙ ap (λ (n : ℕ). n ∷ sized) c.if-next-id.true in
    let size : u32 sized ≡ Ok (length contents, contents ++ following) = c.in_ok-len.ensures.value ∙ cc (c.in_ok-contents.ensures.parts, c.in_ok-contents.ensures.len) in
    c.subsections.invariant contents (first sized following is size)

pub subsections-preserved : goal.subsections-preserved
subsections-preserved c = λ contents h.
    let passed = c.in_ok-contents.contents.rest.now in
    let sized = c.byte.new.self.rest.now in
    let following = c.part.new.self.rest.now in
    let size : u32 sized ≡ Ok (length passed, passed ++ following) = c.in_ok-len.ensures.value ∙ cc (c.in_ok-contents.ensures.parts, c.in_ok-contents.ensures.len) in
    c.subsections.invariant contents (later c.in_ok-next.next sized passed c.in_ok-next.ensures.value c.if-next-id.false size h)
