-- Where an address goes, by the bodies of a module.
use Rattle.std.proofs.Common.{inl, inr, ◌≡◌, ℕ, suc, ◌+◌, ◌-◌, ◌<◌, ◌≤◌, List, [], ◌∷◌, ◌++◌, Option, Some, None, refl, sym, ap, subst, ◌∙◌, arith}
use Rattle.std.specs.Prelude.{◌⊎◌, Any, map, option_and_then}
use Rattle.std.specs.List.{AllByRecursion}
use Rattle.std.proofs.lemmas.Bool.{cases_lt, eq-eqb, ne_eqb, le-leb, lt-leb}
use Rattle.code_moves.specs.declared.run.Run.{Run}
use Rattle.code_moves.specs.declared.body.Body.{Body}
use Rattle.code_moves.specs.Order.{AreRunsOfCode}
use Rattle.code_moves.specs.OrderedBodies.{AreOrdered}
use Rattle.code_moves.specs.Moves.{first_gap, new_place, new_address_within as within, body_with_address, new_address, operator_place, operator_moved, IsWrittenAt}
use Rattle.code_moves.specs.Laws.{IsOfABody, IsWrittenIn, IsPlace, rows_until}
use Rattle.code_moves.proofs.BodySearch.{body_ends, has_in, has_before, has_after, body_at_first, operator_of_body}
use Rattle.code_moves.proofs.RunLaws.{gap_from, place_from_gap, place_until_end, place_rises, written_within, place_until, place_past, place_of_runs, run_within, place_at_end, place_inside, operator_of_written, written_of_operator}

-- ---- one body

within_begin : (b : Body) (a : ℕ) → a ≡ b.begin → within b a ≡ b.new_begin
within_begin b a is = rw (eq-eqb a b.begin is) refl

pub within_after : (b : Body) (a : ℕ) → b.begin < a → within b a ≡ new_place b.runs.items b.new_end a
within_after b a after = rw (ne_eqb a b.begin (λ is. omega arith)) refl

-- at the beginning of the body, or after it
within_cases : (b : Body) (a : ℕ) → b.begin ≤ a → ((a ≡ b.begin) × (within b a ≡ b.new_begin)) ⊎ ((b.begin < a) × (within b a ≡ new_place b.runs.items b.new_end a))
within_cases b a low = elim (cases_lt b.begin a) [
  | inl after ↦ inr (after, within_after b a after)
  | inr le ↦ inl (omega arith, within_begin b a (omega arith))
]

-- the places of a body are in it
places_within : (b : Body) (a : ℕ) → (suc b.new_begin ≤ new_place b.runs.items b.new_end a) × (new_place b.runs.items b.new_end a ≤ b.new_end)
places_within b a =
    let low = gap_from (suc b.begin) (suc b.new_begin) b.runs.items b.end b.new_end b.are_runs in
    let gap = place_from_gap (suc b.begin) (suc b.new_begin) b.runs.items b.end b.new_end b.are_runs a in
    let high = place_until_end (suc b.begin) (suc b.new_begin) b.runs.items b.end b.new_end b.are_runs a in
    (omega arith, omega arith)

within_body : (b : Body) (a : ℕ) → b.begin ≤ a → (b.new_begin ≤ within b a) × (within b a ≤ b.new_end)
within_body b a low =
    let size = body_ends b in
    let places = places_within b a in
    elim (within_cases b a low) [
      | inl begin ↦ (omega arith, omega arith)
      | inr after ↦ (omega arith, omega arith)
    ]

within_rises : (b : Body) (a c : ℕ) → b.begin ≤ a → a ≤ c → within b a ≤ within b c
within_rises b a c low le =
    let places = within_body b c (omega arith) in
    let rises = place_rises (suc b.begin) (suc b.new_begin) b.runs.items b.end b.new_end b.are_runs a c le in
    elim (within_cases b a low) [
      | inl begin ↦ omega arith
      | inr after ↦
          let of_c = within_after b c (omega arith) in
          omega arith
    ]

written_in_body : (b : Body) (old own : ℕ) → IsWrittenAt b.runs.items b.new_end old own → (b.begin < old) × (b.new_begin < own) × (own < b.new_end)
written_in_body b old own written =
    let low = gap_from (suc b.begin) (suc b.new_begin) b.runs.items b.end b.new_end b.are_runs in
    let within = written_within (suc b.begin) (suc b.new_begin) b.runs.items b.end b.new_end b.are_runs old own written in
    (omega arith, omega arith, omega arith)

within_until : (b : Body) (a old own : ℕ) → b.begin ≤ a → IsWrittenAt b.runs.items b.new_end old own → a ≤ old → within b a ≤ own
within_until b a old own low written le =
    let ends = written_in_body b old own written in
    let until = place_until (suc b.begin) (suc b.new_begin) b.runs.items b.end b.new_end b.are_runs a old own written le in
    elim (within_cases b a low) [
      | inl begin ↦ omega arith
      | inr after ↦ omega arith
    ]

within_past : (b : Body) (a old own : ℕ) → IsWrittenAt b.runs.items b.new_end old own → old < a → own < within b a
within_past b a old own written lt =
    let ends = written_in_body b old own written in
    let past = place_past (suc b.begin) (suc b.new_begin) b.runs.items b.end b.new_end b.are_runs a old own written lt in
    let is = within_after b a (omega arith) in
    omega arith

-- ---- bodies: the first one, or those after it

abbrev pub BodyCases : Body → List Body → (a : ℕ) → Type 0
BodyCases b bs a =
    ((b.begin ≤ a) × (a ≤ b.end) × (body_with_address (b ∷ bs) a ≡ Some b) × (new_address (b ∷ bs) a ≡ within b a))
    ⊎ ((body_with_address (b ∷ bs) a ≡ body_with_address bs a) × (new_address (b ∷ bs) a ≡ new_address bs a))

pub body_cases : (b : Body) (bs : List Body) (a : ℕ) → BodyCases b bs a
body_cases b bs a = elim (cases_lt a b.begin) [
  | inl before ↦ inr (rw (has_before b a before) refl, rw (has_before b a before) refl)
  | inr low ↦ elim (cases_lt b.end a) [
    | inl after ↦ inr (rw (has_after b a after) refl, rw (has_after b a after) refl)
    | inr high ↦ inl (low, high, rw (has_in b a low high) refl, rw (has_in b a low high) refl)
  ]
]

pub address_from : (from new_from : ℕ) (bs : List Body) → AreOrdered from new_from bs → (a : ℕ) → IsOfABody bs a → (from ≤ a) × (new_from ≤ new_address bs a)
address_from from new_from [] ordered a of = absurd (cc (of.1))
address_from from new_from (b ∷ bs) ordered a of =
    let first = ordered.0 in
    let size = body_ends b in
    elim (body_cases b bs a) [
      | inl here ↦
          let places = within_body b a here.0 in
          (omega arith, omega arith)
      | inr later ↦
          let rest = address_from (suc b.end) (suc b.new_end) bs ordered.1 a (of.0, sym later.0 ∙ of.1) in
          (omega arith, omega arith)
    ]

pub addresses_rise : (from new_from : ℕ) (bs : List Body) → AreOrdered from new_from bs → (a c : ℕ) → IsOfABody bs a → IsOfABody bs c → a ≤ c → new_address bs a ≤ new_address bs c
addresses_rise from new_from [] ordered a c of_a of_c le = absurd (cc (of_a.1))
addresses_rise from new_from (b ∷ bs) ordered a c of_a of_c le =
    elim (body_cases b bs a) [
      | inl a_here ↦ elim (body_cases b bs c) [
        | inl c_here ↦
            let rises = within_rises b a c a_here.0 le in
            omega arith
        | inr c_later ↦
            let places = within_body b a a_here.0 in
            let rest = address_from (suc b.end) (suc b.new_end) bs ordered.1 c (of_c.0, sym c_later.0 ∙ of_c.1) in
            omega arith
      ]
      | inr a_later ↦
          let of_a_later : IsOfABody bs a = (of_a.0, sym a_later.0 ∙ of_a.1) in
          elim (body_cases b bs c) [
            | inl c_here ↦
                let rest = address_from (suc b.end) (suc b.new_end) bs ordered.1 a of_a_later in
                absurd (omega arith)
            | inr c_later ↦
                let rises = addresses_rise (suc b.end) (suc b.new_end) bs ordered.1 a c of_a_later (of_c.0, sym c_later.0 ∙ of_c.1) le in
                omega arith
          ]
    ]

-- ---- operators that are written

written_cases : (b : Body) (bs : List Body) (old own : ℕ) → IsWrittenIn (b ∷ bs) old own → ((old ≤ b.end) × IsWrittenAt b.runs.items b.new_end old own) ⊎ IsWrittenIn bs old own
written_cases b bs old own written = elim (body_cases b bs old) [
  | inl here ↦
      let same : written.0 ≡ b = cc (here.2, written.1) in
      inl (here.1, subst (λ (c : Body). IsWrittenAt c.runs.items c.new_end old own) same written.2)
  | inr later ↦ inr (written.0, sym later.0 ∙ written.1, written.2)
]

written_from : (from new_from : ℕ) (bs : List Body) → AreOrdered from new_from bs → (old own : ℕ) → IsWrittenIn bs old own → (from ≤ old) × (new_from ≤ own)
written_from from new_from [] ordered old own written = absurd (cc (written.1))
written_from from new_from (b ∷ bs) ordered old own written =
    let first = ordered.0 in
    let size = body_ends b in
    elim (written_cases b bs old own written) [
      | inl here ↦
          let within = written_in_body b old own here.1 in
          (omega arith, omega arith)
      | inr later ↦
          let rest = written_from (suc b.end) (suc b.new_end) bs ordered.1 old own later in
          (omega arith, omega arith)
    ]

pub address_until : (from new_from : ℕ) (bs : List Body) → AreOrdered from new_from bs → (a old own : ℕ) → IsOfABody bs a → IsWrittenIn bs old own → a ≤ old → new_address bs a ≤ own
address_until from new_from [] ordered a old own of written le = absurd (cc (of.1))
address_until from new_from (b ∷ bs) ordered a old own of written le =
    elim (written_cases b bs old own written) [
      | inl old_here ↦ elim (body_cases b bs a) [
        | inl here ↦
            let until = within_until b a old own here.0 old_here.1 le in
            omega arith
        | inr later ↦
            let rest = address_from (suc b.end) (suc b.new_end) bs ordered.1 a (of.0, sym later.0 ∙ of.1) in
            absurd (omega arith)
      ]
      | inr old_later ↦ elim (body_cases b bs a) [
        | inl here ↦
            let places = within_body b a here.0 in
            let rest = written_from (suc b.end) (suc b.new_end) bs ordered.1 old own old_later in
            omega arith
        | inr later ↦
            let until = address_until (suc b.end) (suc b.new_end) bs ordered.1 a old own (of.0, sym later.0 ∙ of.1) old_later le in
            omega arith
      ]
    ]

pub address_past : (from new_from : ℕ) (bs : List Body) → AreOrdered from new_from bs → (a old own : ℕ) → IsOfABody bs a → IsWrittenIn bs old own → old < a → own < new_address bs a
address_past from new_from [] ordered a old own of written lt = absurd (cc (of.1))
address_past from new_from (b ∷ bs) ordered a old own of written lt =
    elim (written_cases b bs old own written) [
      | inl old_here ↦ elim (body_cases b bs a) [
        | inl here ↦
            let past = within_past b a old own old_here.1 lt in
            omega arith
        | inr later ↦
            let rest = address_from (suc b.end) (suc b.new_end) bs ordered.1 a (of.0, sym later.0 ∙ of.1) in
            let within = written_in_body b old own old_here.1 in
            omega arith
      ]
      | inr old_later ↦ elim (body_cases b bs a) [
        | inl here ↦
            let rest = written_from (suc b.end) (suc b.new_end) bs ordered.1 old own old_later in
            absurd (omega arith)
        | inr later ↦
            let past = address_past (suc b.end) (suc b.new_end) bs ordered.1 a old own (of.0, sym later.0 ∙ of.1) old_later lt in
            omega arith
      ]
    ]

-- so an address is at the operator or before it exactly if it was
pub until_again : (bs : List Body) → AreOrdered 0 0 bs → (a old own : ℕ) → IsOfABody bs a → IsWrittenIn bs old own → new_address bs a ≤ own → a ≤ old
until_again bs ordered a old own of written le = elim (cases_lt old a) [
  | inl past ↦
      let new_past = address_past 0 0 bs ordered a old own of written past in
      absurd (omega arith)
  | inr until ↦ until
]

pub past_again : (bs : List Body) → AreOrdered 0 0 bs → (a old own : ℕ) → IsOfABody bs a → IsWrittenIn bs old own → own < new_address bs a → old < a
past_again bs ordered a old own of written lt = elim (cases_lt old a) [
  | inl past ↦ past
  | inr until ↦
      let new_until = address_until 0 0 bs ordered a old own of written until in
      absurd (omega arith)
]

pub rows_stay : (bs : List Body) (rows : List ℕ) (old own : ℕ) → AreOrdered 0 0 bs → AllByRecursion (IsOfABody bs) rows → IsWrittenIn bs old own
    → rows_until own (map (new_address bs) rows) ≡ rows_until old rows
rows_stay bs [] old own ordered of written = refl
rows_stay bs (row ∷ rows) old own ordered of written = elim (cases_lt old row) [
  | inl past ↦
      rw (lt-leb row old past, lt-leb (new_address bs row) own (address_past 0 0 bs ordered row old own of.0 written past)) refl
  | inr until ↦
      rw (le-leb row old until, le-leb (new_address bs row) own (address_until 0 0 bs ordered row old own of.0 written until))
      (ap suc (rows_stay bs rows old own ordered of.1 written))
]

-- ---- the body of an address

-- the address is of the body, and goes where it does in the body
pub address_in : (bs : List Body) (b : Body) (a : ℕ) → body_with_address bs a ≡ Some b → (b.begin ≤ a) × (a ≤ b.end) × (new_address bs a ≡ within b a)
address_in [] b a of = absurd (cc)
address_in (c ∷ bs) b a of = elim (body_cases c bs a) [
  | inl here ↦
      let same : c ≡ b = cc (here.2, of) in
      subst (λ (e : Body). (e.begin ≤ a) × (a ≤ e.end) × (new_address (c ∷ bs) a ≡ within e a)) same (here.0, here.1, here.3)
  | inr later ↦
      let rest = address_in bs b a (sym later.0 ∙ of) in
      (rest.0, rest.1, later.1 ∙ rest.2)
]

body_from : (from new_from : ℕ) (bs : List Body) → AreOrdered from new_from bs → (b : Body) (a : ℕ) → body_with_address bs a ≡ Some b → from ≤ b.begin
body_from from new_from [] ordered b a of = absurd (cc)
body_from from new_from (d ∷ bs) ordered b a of =
    let first = ordered.0 in
    let size = body_ends d in
    elim (body_cases d bs a) [
      | inl here ↦
          let same : d ≡ b = cc (here.2, of) in
          subst (λ (e : Body). from ≤ e.begin) same first.0
      | inr later ↦
          let rest = body_from (suc d.end) (suc d.new_end) bs ordered.1 b a (sym later.0 ∙ of) in
          omega arith
    ]

-- each address of the body is of it
pub same_body : (from new_from : ℕ) (bs : List Body) → AreOrdered from new_from bs → (b : Body) (a c : ℕ) → body_with_address bs a ≡ Some b → b.begin ≤ c → c ≤ b.end → body_with_address bs c ≡ Some b
same_body from new_from [] ordered b a c of low high = absurd (cc)
same_body from new_from (d ∷ bs) ordered b a c of low high = elim (body_cases d bs a) [
  | inl here ↦
      let same : b ≡ d = cc (here.2, of) in
      subst (λ (e : Body). e.begin ≤ c → c ≤ e.end → body_with_address (d ∷ bs) c ≡ Some e) (sym same) (body_at_first d bs c) low high
  | inr later ↦
      let after = body_from (suc d.end) (suc d.new_end) bs ordered.1 b a (sym later.0 ∙ of) in
      let rest = same_body (suc d.end) (suc d.new_end) bs ordered.1 b a c (sym later.0 ∙ of) low high in
      rw (has_after d c (omega arith)) rest
]

pub is_place : (bs : List Body) (b : Body) (a : ℕ) → body_with_address bs a ≡ Some b → IsPlace b a (new_address bs a)
is_place bs b a of =
    let is = address_in bs b a of in
    elim (within_cases b a is.0) [
      | inl begin ↦ inl (is.2 ∙ begin.1)
      | inr after ↦ inr (subst (λ new. (new ≡ b.new_end) ⊎ (Any (λ r. new ≡ r.gap) b.runs.items ⊎ IsWrittenAt b.runs.items b.new_end a new)) (sym (is.2 ∙ after.1))
          (place_of_runs (suc b.begin) (suc b.new_begin) b.runs.items b.end b.new_end b.are_runs a))
    ]

-- ---- the end of a run, and operators inside of it

-- an address after the first byte goes where its runs say
in_runs : (bs : List Body) (b : Body) (a : ℕ) → body_with_address bs a ≡ Some b → b.begin < a → new_address bs a ≡ new_place b.runs.items b.new_end a
in_runs bs b a of after = (address_in bs b a of).2 ∙ within_after b a after

pub run_end : (bs : List Body) (b : Body) (front rs : List Run) (r : Run) → body_with_address bs r.end ≡ Some b → b.runs.items ≡ front ++ r ∷ rs → new_address bs r.end ≡ first_gap rs b.new_end
run_end bs b front rs r of is =
    let runs = subst (λ qs. AreRunsOfCode (suc b.begin) (suc b.new_begin) qs b.end b.new_end) is b.are_runs in
    let within = run_within (suc b.begin) (suc b.new_begin) front r rs b.end b.new_end runs in
    in_runs bs b r.end of (omega arith) ∙ ap (λ qs. new_place qs b.new_end r.end) is ∙ place_at_end (suc b.begin) (suc b.new_begin) front r rs b.end b.new_end runs

pub inside_run : (bs : List Body) (b : Body) (front rs : List Run) (r : Run) → AreOrdered 0 0 bs → body_with_address bs r.end ≡ Some b → b.runs.items ≡ front ++ r ∷ rs
    → (a : ℕ) → r.old < a → a < r.end → r.own + (a - r.old) < first_gap rs b.new_end → new_address bs a ≡ r.own + (a - r.old)
inside_run bs b front rs r ordered of is a after inside below =
    let runs = subst (λ qs. AreRunsOfCode (suc b.begin) (suc b.new_begin) qs b.end b.new_end) is b.are_runs in
    let within = run_within (suc b.begin) (suc b.new_begin) front r rs b.end b.new_end runs in
    in_runs bs b a (same_body 0 0 bs ordered b r.end a of (omega arith) (omega arith)) (omega arith) ∙ ap (λ qs. new_place qs b.new_end a) is
    ∙ place_inside (suc b.begin) (suc b.new_begin) front r rs b.end b.new_end runs a after inside below

-- ---- the place of an operator

pub written_has_place : (bs : List Body) (old own : ℕ) → IsWrittenIn bs old own → operator_moved bs old ≡ Some own
written_has_place bs old own written =
    let b = written.0 in
    operator_of_body bs old ∙ ap (option_and_then (λ (c : Body). operator_place c.runs.items c.new_end old)) written.1
    ∙ operator_of_written (suc b.begin) (suc b.new_begin) b.runs.items b.end b.new_end b.are_runs old own written.2

place_is_of : (bs : List Body) (old own : ℕ) (found : Option Body) → body_with_address bs old ≡ found → option_and_then (λ (b : Body). operator_place b.runs.items b.new_end old) found ≡ Some own → IsWrittenIn bs old own
place_is_of bs old own None is place = absurd (cc (place))
place_is_of bs old own (Some b) is place = (b, is, written_of_operator (suc b.begin) (suc b.new_begin) b.runs.items b.end b.new_end b.are_runs old own place)

pub place_is_written : (bs : List Body) (old own : ℕ) → operator_moved bs old ≡ Some own → IsWrittenIn bs old own
place_is_written bs old own place = place_is_of bs old own (body_with_address bs old) refl (sym (operator_of_body bs old) ∙ place)
