-- A number follows the id, and as many bytes follow it.
use Rattle.std.proofs.Common.{◌≡◌, ℕ, ◌-◌, List, ◌∷◌, ◌++◌, length, sym, ap, ◌∙◌, append_assoc}
use Rattle.wasm_numbers.specs.Numbers.{unsigned}
use Rattle.wasm_sections.proofs.NumberLemmas.{number_takes, before_last}
use Rattle.wasm_sections.proofs.sections.read_section.Goals as goal

pub returns-clause-begins : goal.returns-clause-begins
returns-clause-begins c =
    let text = c.args.left.rest.now in
    let sized = c.byte.new.self.rest.now in
    let following = c.part.new.self.rest.now in
    let contents = c.in_ok-contents.contents.rest.now in
    let number = c.in_ok-len.ensures.value in
    let parts = c.in_ok-contents.ensures.parts in
    let front = number_takes unsigned 32 sized c.in_ok-len.len c.number.new.self.rest.now number in
    let id_is : text ≡ c.in_ok-id.id ∷ sized = c.in_ok-id.ensures.value in
    let last : text ≡ (c.in_ok-id.id ∷ (front.front ++ contents)) ++ following =
    id_is ∙ ap (λ (l : List ℕ). c.in_ok-id.id ∷ l) (front.parts ∙ ap (λ (l : List ℕ). front.front ++ l) parts ∙ sym (append_assoc front.front contents following)) in
    record {
      sized = sized;
      id_is = id_is ∙ ap (λ (n : ℕ). n ∷ sized) (sym c.in-Some.ensures.some);
      size_is = number ∙ cc (parts, c.in_ok-contents.ensures.len);
      end_is = c.in_ok-contents.ensures.ends ∙ ap (λ (n : ℕ). n - length following) (c.number.ensures.same_end ∙ c.byte.ensures.same_end);
      whole_is = sym (ap (λ (l : List ℕ). l ++ following) c.until.ensures ∙ before_last text (c.in_ok-id.id ∷ (front.front ++ contents)) following last);
    }
