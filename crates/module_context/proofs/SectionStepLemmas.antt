-- Sections, one after the other.
use Rattle.std.proofs.Common.{◌≡◌, ◌≢◌, ℕ, zero, suc, ◌-◌, ◌<◌, ◌≤◌, List, [], ◌∷◌, ◌++◌, length, Some, Result, Ok, Err, refl, sym, ap, ◌∙◌, inl, inr, arith, length-append}
use Rattle.wasm_numbers.specs.Numbers.{unsigned}
use Rattle.wasm_numbers.specs.Results.{◌>>=◌, with_fault}
use Rattle.wasm_numbers.proofs.ResultLemmas.{bind_ok, ok_same, with_fault_ok}
use Rattle.wasm_sections.specs.declared.fault.ModuleError.{ModuleError}
use Rattle.wasm_sections.specs.declared.fault.ModuleFault.{ModuleFault}
use Rattle.wasm_sections.specs.declared.sections.Section.{Section}
use Rattle.wasm_sections.specs.declared.sections.Sections.{Sections}
use Rattle.wasm_sections.specs.Parts.{fault_here}
use Rattle.wasm_sections.specs.Sections.{section_id, section_part, rank_with, next_section, TakesSection}
use Rattle.wasm_sections.proofs.NumberLemmas.{number_takes, is_shorter}
use Rattle.wasm_sections.proofs.TypeReadingLemmas.{first_gives, first_fails, FailsUnlessMemory}
use Rattle.module_context.specs.SectionSteps.{SectionStep, through_sections}

-- ---- a section and its rank

-- what is read of the next section
pub record NextRead (r end : ℕ) (text : List ℕ) (id : ℕ) (contents : List ℕ) (next : ℕ) (rest : List ℕ) : Type 0 where
  pub section_is : section_part end text ≡ Ok ((id, contents), rest)
  pub rank_is : with_fault (fault_here end text) (rank_with r id) ≡ Ok next

next_read :
    (r end : ℕ) (text : List ℕ) (id : ℕ) (contents : List ℕ) (next : ℕ) (rest : List ℕ) → next_section r end text ≡ Ok (((id, contents), next), rest) →
    NextRead r end text id contents next rest
next_read r end text id contents next rest e =
    let check : ℕ × List ℕ → Result ((ℕ × List ℕ) × ℕ) ModuleFault = λ x. rank_with r x.0 >>= λ n. Ok (x, n) in
    let a = bind_ok (section_part end text) (λ x. with_fault (fault_here end text) (check x.0) >>= λ v. Ok (v, x.1)) (((id, contents), next), rest) e in
    let b = bind_ok (with_fault (fault_here end text) (check a.0.0)) (λ v. Ok (v, a.0.1)) (((id, contents), next), rest) a.2 in
    let c = bind_ok (rank_with r a.0.0.0) (λ n. Ok (a.0.0, n)) b.0 (with_fault_ok (fault_here end text) (check a.0.0) b.0 b.1) in
    let all = ok_same (b.0, a.0.1) (((id, contents), next), rest) b.2 in
    let checked_is = ok_same (a.0.0, c.0) b.0 c.2 in
    let both : (a.0.0, c.0) ≡ ((id, contents), next) = checked_is ∙ ap (λ (p : ((ℕ × List ℕ) × ℕ) × List ℕ). p.0) all in
    let section : a.0.0 ≡ (id, contents) = ap (λ (p : (ℕ × List ℕ) × ℕ). p.0) both in
    let after : a.0.1 ≡ rest = ap (λ (p : ((ℕ × List ℕ) × ℕ) × List ℕ). p.1) all in
    record {
      section_is = a.1 ∙ ap (λ (p : ℕ × List ℕ). Ok (p, a.0.1)) section ∙ ap (λ (l : List ℕ). Ok ((id, contents), l)) after;
      rank_is =
          ap (λ (r : Result ℕ ModuleFault). with_fault (fault_here end text) r)
          (ap (λ (p : ℕ × List ℕ). rank_with r p.0) (sym section) ∙ c.1 ∙ ap (λ (p : (ℕ × List ℕ) × ℕ). Ok p.1) both);
    }

rank_first :
    {Y : Type 0} (rank : Result ℕ ModuleFault) (here : ModuleFault → ModuleError) (Z : Type 0) (pair : ℕ → Z) (W : Type 0) (put : Z → W) (after : ℕ → Result Y ModuleError)
    (e : ModuleError) → (with_fault here (rank >>= λ n. Ok (pair n)) >>= λ v. Ok (put v)) ≡ Err e → (with_fault here rank >>= after) ≡ Err e
rank_first (Ok n) here Z pair W put after e h = absurd cc
rank_first (Err f) here Z pair W put after e h = let same : here f ≡ e = cc in ap (λ (x : ModuleError). Err x) same

-- a fault of the section or of its rank is a fault before its contents
fault_first :
    {X Y : Type 0} (part : Result X ModuleError) (rank : X → Result ℕ ModuleFault) (here : ModuleFault → ModuleError) (Z : Type 0) (pair : X → ℕ → Z) (W : Type 0) (put : X → Z → W)
    (after : X → ℕ → Result Y ModuleError) (e : ModuleError) → (part >>= λ x. with_fault here (rank x >>= λ n. Ok (pair x n)) >>= λ v. Ok (put x v)) ≡ Err e →
    (part >>= λ x. with_fault here (rank x) >>= λ n. after x n) ≡ Err e
fault_first {X} {Y} (Err d) rank here Z pair W put after e h = let same : d ≡ e = cc in ap (λ (x : ModuleError). Err x) same
fault_first {X} {Y} (Ok x) rank here Z pair W put after e h = rank_first (rank x) here Z (pair x) W (put x) (after x) e h

-- ---- the sections that are left

module _ {S : Type 0} (step : SectionStep S) where
  ended : (most r : ℕ) (s : S) (end : ℕ) → through_sections step most r s end [] ≡ Ok s
  unfolding through_sections
  ended zero r s end = refl
  ended (suc most) r s end = refl

  abbrev rest_of : (most : ℕ) → (s : S) → (end : ℕ) → (x : (ℕ × List ℕ) × List ℕ) → (next : ℕ) → Result S ModuleError
  rest_of most s end x next = step x.0.0 s (end - length x.1) x.0.1 >>= λ t. through_sections step most next t end x.1

  begun :
      (most r : ℕ) (s : S) (end b : ℕ) (bytes : List ℕ) →
      through_sections step (suc most) r s end (b ∷ bytes)
      ≡ (section_part end (b ∷ bytes) >>= λ x. with_fault (fault_here end (b ∷ bytes)) (rank_with r x.0.0) >>= λ next. rest_of most s end x next)
  unfolding through_sections
  begun most r s end b bytes = refl

  -- with bytes that are left there is fuel
  left_over :
      (most r : ℕ) (s : S) (end : ℕ) (text : List ℕ) → text ≢ [] → length text ≤ most →
      (k : ℕ) × (most ≡ suc k)
      × (through_sections step most r s end text ≡ (section_part end text >>= λ x. with_fault (fault_here end text) (rank_with r x.0.0) >>= λ next. rest_of k s end x next))
  left_over most r s end [] some enough = absurd (some refl)
  left_over zero r s end (b ∷ bytes) some enough = absurd (omega arith)
  left_over (suc k) r s end (b ∷ bytes) some enough = (k, refl, begun k r s end b bytes)

  -- The sections that are left make the whole of this value.
  pub record ThroughLeft (whole : Result S ModuleError) (end : ℕ) (left : Sections) (s : S) : Type 0 where
    pub most : ℕ
    pub enough : length left.left.rest.now ≤ most
    pub end_is : left.left.end ≡ end
    pub whole_is : whole ≡ through_sections step most left.rank s end left.left.rest.now

  pub all_sections : (whole : Result S ModuleError) (end : ℕ) (left : Sections) (s : S) → left.left.rest.now ≡ [] → ThroughLeft whole end left s → whole ≡ Ok s
  all_sections whole end left s none so = so.whole_is ∙ ap (λ (l : List ℕ). through_sections step so.most left.rank s end l) none ∙ ended so.most left.rank s end

  pub section_unread :
      (whole : Result S ModuleError) (end : ℕ) (a b : Sections) (s : S) (e : ModuleError) → ThroughLeft whole end a s → TakesSection a (Some (Err e)) b → whole ≡ Err e
  section_unread whole end a b s e so takes =
      let text : List ℕ = a.left.rest.now in
      let over = left_over so.most a.rank s end text takes.0 so.enough in
      let next : next_section a.rank end text ≡ Err e = ap (λ (k : ℕ). next_section a.rank k text) (sym so.end_is) ∙ takes.1 in
      so.whole_is ∙ over.2
      ∙ fault_first (section_part end text) (λ x. rank_with a.rank x.0.0) (fault_here end text) ((ℕ × List ℕ) × ℕ) (λ x n. (x.0, n)) (((ℕ × List ℕ) × ℕ) × List ℕ) (λ x v. (v, x.1))
      (rest_of over.0 s end) e next

  -- a section that is there
  module _
      (whole : Result S ModuleError) (end : ℕ) (a b : Sections) (section : Section) (s : S) (so : ThroughLeft whole end a s) (takes : TakesSection a (Some (Ok section)) b) where
    taken : NextRead a.rank end a.left.rest.now (section_id section.kind) section.contents.rest.now b.rank b.left.rest.now
    taken = next_read a.rank end a.left.rest.now (section_id section.kind) section.contents.rest.now b.rank b.left.rest.now
        (ap (λ (k : ℕ). next_section a.rank k a.left.rest.now) (sym so.end_is) ∙ takes.2)

    some : a.left.rest.now ≢ []
    some = λ none. let e : section_id section.kind ∷ takes.0.sized ≡ [] = sym takes.0.id_is ∙ none in absurd cc

    shorter : length b.left.rest.now < length a.left.rest.now
    shorter =
        let contents : List ℕ = section.contents.rest.now in
        let front = number_takes unsigned 32 takes.0.sized (length contents) (contents ++ b.left.rest.now) takes.0.size_is in
        let less = is_shorter takes.0.sized (contents ++ b.left.rest.now) front in
        let both = length-append contents b.left.rest.now in
        let all : length a.left.rest.now ≡ suc (length takes.0.sized) = ap length takes.0.id_is in
        omega arith

    ends : section.contents.end ≡ end - length b.left.rest.now
    ends = takes.0.end_is ∙ ap (λ (k : ℕ). k - length b.left.rest.now) so.end_is

    over :
        (k : ℕ) × (so.most ≡ suc k)
        × (through_sections step so.most a.rank s end a.left.rest.now
        ≡ (section_part end a.left.rest.now >>= λ x. with_fault (fault_here end a.left.rest.now) (rank_with a.rank x.0.0) >>= λ next. rest_of k s end x next))
    over = left_over so.most a.rank s end a.left.rest.now some so.enough

    passed_on :
        through_sections step so.most a.rank s end a.left.rest.now
        ≡ (step (section_id section.kind) s section.contents.end section.contents.rest.now >>= λ t. through_sections step over.0 b.rank t end b.left.rest.now)
    passed_on =
        over.2
        ∙ first_gives (section_part end a.left.rest.now) (λ x. with_fault (fault_here end a.left.rest.now) (rank_with a.rank x.0.0) >>= λ next. rest_of over.0 s end x next)
        ((section_id section.kind, section.contents.rest.now), b.left.rest.now) taken.section_is
        ∙ first_gives (with_fault (fault_here end a.left.rest.now) (rank_with a.rank (section_id section.kind)))
        (λ next. rest_of over.0 s end ((section_id section.kind, section.contents.rest.now), b.left.rest.now) next) b.rank taken.rank_is
        ∙ ap (λ (k : ℕ). step (section_id section.kind) s k section.contents.rest.now >>= λ t. through_sections step over.0 b.rank t end b.left.rest.now) (sym ends)

    pub step_failed :
        (e : ModuleError) → FailsUnlessMemory e (step (section_id section.kind) s section.contents.end section.contents.rest.now) → FailsUnlessMemory e whole
    step_failed e (inl m) = inl m
    step_failed e (inr h) =
        inr (so.whole_is ∙ passed_on
        ∙ first_fails (step (section_id section.kind) s section.contents.end section.contents.rest.now) (λ t. through_sections step over.0 b.rank t end b.left.rest.now) e h)

    pub one_more_section :
        (t : S) → step (section_id section.kind) s section.contents.end section.contents.rest.now ≡ Ok t → ThroughLeft whole end b t
    one_more_section t read = record {
      most = over.0;
      enough = let short = shorter in let fuel = over.1 in let enough = so.enough in omega arith;
      end_is = takes.1 ∙ so.end_is;
      whole_is =
          so.whole_is ∙ passed_on
          ∙ first_gives (step (section_id section.kind) s section.contents.end section.contents.rest.now) (λ t. through_sections step over.0 b.rank t end b.left.rest.now) t read;
    }
