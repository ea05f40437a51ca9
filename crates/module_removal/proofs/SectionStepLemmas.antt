-- Steps over the items of a vector, and over the sections of a module, in a loop.
use Rattle.std.proofs.Common.{◌≡◌, ℕ, suc, ◌+◌, ◌-◌, ◌<◌, ◌≤◌, List, ◌++◌, length, Some, None, Ok, sym, ap, subst, ◌∙◌}
use Rattle.wasm_sections.specs.declared.sections.Section.{Section}
use Rattle.wasm_sections.specs.declared.sections.Sections.{Sections}
use Rattle.wasm_sections.specs.Parts.{number as number_part}
use Rattle.wasm_sections.specs.Sections.{preamble, next_section, TakesSection}
use Rattle.module_removal.specs.SeveralSteps.{SoManySteps}
use Rattle.module_removal.specs.ModuleSteps.{PartStep, ThroughVector, ContentsStep, OverSection, ThroughSections}
use Rattle.module_removal.proofs.SeveralStepsLemmas.{StepsLeft, no_step_made, one_more_step, all_steps_made, steps_then}

-- ---- the items of a vector

-- Their number is read, and of their steps some were made.
pub record ItemsPassed {S : Type 0} (Step : PartStep S) (end : ℕ) (text : List ℕ) (count i : ℕ) (old : S) (now : S × List ℕ) : Type 0 where
  pub rest : List ℕ
  pub read : number_part end text ≡ Ok (count, rest)
  pub left : StepsLeft (Step end) count i (old, rest) now

pub no_item_passed :
    {S : Type 0} (Step : PartStep S) (end count : ℕ) (text rest : List ℕ) (old : S) → number_part end text ≡ Ok (count, rest) →
    ItemsPassed Step end text count 0 old (old, rest)
no_item_passed Step end count text rest old read = record { rest = rest; read = read; left = no_step_made (Step end) count (old, rest) }

pub one_more_item :
    {S : Type 0} (Step : PartStep S) (end other : ℕ) (text : List ℕ) (count i : ℕ) (old : S) (now next : S × List ℕ) → ItemsPassed Step end text count i old now →
    i < count → other ≡ end → Step other now next → ItemsPassed Step end text count (i + 1) old next
one_more_item Step end other text count i old now next so less same step = record {
  rest = so.rest;
  read = so.read;
  left = one_more_step (Step end) count i (old, so.rest) now next so.left less (subst (λ (n : ℕ). Step n now next) same step);
}

pub all_items_passed :
    {S : Type 0} (Step : PartStep S) (end : ℕ) (text : List ℕ) (count i : ℕ) (old : S) (now : S × List ℕ) → ItemsPassed Step end text count i old now →
    count ≤ i → ThroughVector Step end text old now.0
all_items_passed Step end text count i old now so done =
    (count, so.rest, now.1, so.read, all_steps_made (Step end) count i (old, so.rest) now so.left done)

-- ---- the sections of a module

no_steps : {S : Type 0} (Step : S → S → Type 0) (a b : S) → b ≡ a → SoManySteps Step 0 a b
unfolding SoManySteps
no_steps Step a b e = e

-- Some of them were passed.
pub record SectionsPassed {S : Type 0} (Contents : ContentsStep S) (bytes : List ℕ) (old now : S) (left : Sections) : Type 0 where
  pub text : List ℕ
  pub is : bytes ≡ preamble ++ text
  pub end : left.left.end ≡ length bytes
  pub count : ℕ
  pub steps : SoManySteps (OverSection Contents (length bytes)) count (old, (0, text)) (now, (left.rank, left.left.rest.now))

pub no_section_passed :
    {S : Type 0} (Contents : ContentsStep S) (bytes : List ℕ) (old : S) (first begun : Sections) → bytes ≡ preamble ++ first.left.rest.now →
    first.left.end ≡ length bytes → first.rank ≡ 0 → begun ≡ first → SectionsPassed Contents bytes old old begun
no_section_passed {S = S} Contents bytes old first begun is end rank same =
    subst (SectionsPassed Contents bytes old old) (sym same)
    (record {
      text = first.left.rest.now;
      is = is;
      end = end;
      count = 0;
      steps =
          no_steps (OverSection Contents (length bytes)) (old, (0, first.left.rest.now)) (old, (first.rank, first.left.rest.now))
          (ap (λ (n : ℕ). (let s : S × (ℕ × List ℕ) = (old, (n, first.left.rest.now)) in s)) rank);
    })

pub one_more_passed :
    {S : Type 0} (Contents : ContentsStep S) (bytes : List ℕ) (old now next : S) (left then : Sections) (section : Section) →
    SectionsPassed Contents bytes old now left → TakesSection left (Some (Ok section)) then →
    Contents section.kind section.contents.end section.contents.rest.now now next → SectionsPassed Contents bytes old next then
one_more_passed Contents bytes old now next left then section so takes made =
    let place : section.contents.end ≡ length bytes - length then.left.rest.now =
    takes.0.end_is ∙ ap (λ (n : ℕ). n - length then.left.rest.now) so.end in
    record {
      text = so.text;
      is = so.is;
      end = takes.1 ∙ so.end;
      count = suc so.count;
      steps =
          steps_then (OverSection Contents (length bytes)) so.count (old, (0, so.text)) (now, (left.rank, left.left.rest.now)) (next, (then.rank, then.left.rest.now))
          so.steps (
            section.kind,
            section.contents.rest.now,
            ap (λ (n : ℕ). next_section left.rank n left.left.rest.now) (sym so.end) ∙ takes.2,
            subst (λ (n : ℕ). Contents section.kind n section.contents.rest.now now next) place made,
          );
    }

pub all_sections_passed :
    {S : Type 0} (Contents : ContentsStep S) (bytes : List ℕ) (old now : S) (left then : Sections) → SectionsPassed Contents bytes old now left →
    TakesSection left None then → ThroughSections Contents bytes old now
all_sections_passed Contents bytes old now left then so takes = (
  so.text,
  so.count,
  left.rank,
  so.is,
  subst (λ (l : List ℕ). SoManySteps (OverSection Contents (length bytes)) so.count (old, (0, so.text)) (now, (left.rank, l))) takes so.steps,
)
