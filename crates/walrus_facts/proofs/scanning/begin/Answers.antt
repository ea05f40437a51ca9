use Rattle.std.proofs.Common.{◌≡◌, false, [], ◌∷◌, ◌++◌, length, replicate, refl, ap, ◌∙◌, rules, reverse, vec_len}
use Rattle.walrus_ir.specs.Faults.{begun}
use Rattle.walrus_ir.proofs.Marks.{all_unmarked}
use Rattle.walrus_facts.specs.Marking.{is_marked}
use Rattle.walrus_facts.proofs.scanning.begin.Goals as goal

pub returns : goal.returns
returns c =
    let b = c.args.builder.now.sequences in
    let k : length c.in_ok-reached.reached.items ≡ vec_len c.in_ok-reached.reached = search rules in
    let m : c.in_ok-reached.reached.items ≡ replicate c.count.result false = c.in_ok-reached.ensures.items_if_clones_equal (λ y e. e) in
    let first : reverse c.push.new.self.items ≡ c.args.start ∷ [] = ap reverse (c.in_ok-push.ensures.items ∙ ap (λ ps. ps ++ c.args.start ∷ []) c.new-coming.ensures.items) in
    record {
      seen = [];
      walks = rw first begun;
      as_long = k ∙ (c.in_ok-reached.ensures.len ∙ c.count.ensures);
      marks_are = all_unmarked c.count.result c.in_ok-reached.reached.items m;
      size = refl;
      uses = refl;
      refers = refl;
      marks = λ l. ap (λ ms. is_marked ms l) c.new.ensures.items;
    }
