-- Numbers of other spaces where one space gets a number, and data segments that get numbers one after the other.
use Rattle.std.proofs.Common.{rules, ◌≡◌, ◌≢◌, ◌≤◌, ◌+◌, ◌==◌, ℕ, Bool, true, false, cond, Option, Some, Result, Ok, refl, sym, ap, ◌∙◌, inl, inr, arith}
use Rattle.std.specs.Ordering.{nat_cmp}
use Rattle.std.specs.Cmp.{nat_cmp_total, unsigned_tied}
use Rattle.std.specs.FinMap.{FinMap, get, insert, len, get-insert}
use Rattle.std.proofs.lemmas.Bool.{eq-eqb, ne_eqb, cases_eq}
use Rattle.wasm_numbers.specs.Results.{some_or}
use Rattle.wasm_operators.specs.declared.types.Space.{Space}
use Rattle.wasm_operators.specs.declared.types.Space.TheVariants.{Types, Funcs, Tables, Memories, Globals, Tags, Elements, Data}
use Rattle.wasm_body.specs.declared.error.IndexError.{IndexError}
use Rattle.wasm_body.specs.declared.error.IndexError.TheVariants.{Unnumbered}
use Rattle.walrus_maps.specs.declared.ids_to_indices.IdsToIndices.{IdsToIndices}
use Rattle.walrus_maps.specs.IndexMaps.{numbers_in, number_of, with_numbers, with_next_number, with_number}
use Rattle.wasm_sections.specs.declared.spaces.Spaces.{Spaces}
use Rattle.wasm_sections.specs.DefinedItems.{KeepsSourceIndices, KeepsOtherNumbers, ChangesNumbersOf, DefinesData, NumbersData}

-- ---- other spaces

other_than_types : (numbers : FinMap nat_cmp ℕ) (m : IdsToIndices) → KeepsOtherNumbers Types m (with_numbers Types numbers m)
other_than_types numbers m Types h = absurd (h refl)
other_than_types numbers m Funcs h = refl
other_than_types numbers m Tables h = refl
other_than_types numbers m Memories h = refl
other_than_types numbers m Globals h = refl
other_than_types numbers m Tags h = refl
other_than_types numbers m Elements h = refl
other_than_types numbers m Data h = refl

other_than_globals : (numbers : FinMap nat_cmp ℕ) (m : IdsToIndices) → KeepsOtherNumbers Globals m (with_numbers Globals numbers m)
other_than_globals numbers m Globals h = absurd (h refl)
other_than_globals numbers m Funcs h = refl
other_than_globals numbers m Tables h = refl
other_than_globals numbers m Memories h = refl
other_than_globals numbers m Types h = refl
other_than_globals numbers m Tags h = refl
other_than_globals numbers m Elements h = refl
other_than_globals numbers m Data h = refl

other_than_data : (numbers : FinMap nat_cmp ℕ) (m : IdsToIndices) → KeepsOtherNumbers Data m (with_numbers Data numbers m)
other_than_data numbers m Data h = absurd (h refl)
other_than_data numbers m Funcs h = refl
other_than_data numbers m Tables h = refl
other_than_data numbers m Memories h = refl
other_than_data numbers m Types h = refl
other_than_data numbers m Tags h = refl
other_than_data numbers m Elements h = refl
other_than_data numbers m Globals h = refl

-- other numbers stay, by what the maps become
pub keeps_by_types : (id : ℕ) (old new : IdsToIndices) → new ≡ with_next_number Types id old → KeepsOtherNumbers Types old new
keeps_by_types id old new e other h = ap (λ (m : IdsToIndices). numbers_in m other) e ∙ other_than_types _ old other h

pub keeps_by_globals : (id : ℕ) (old new : IdsToIndices) → new ≡ with_next_number Globals id old → KeepsOtherNumbers Globals old new
keeps_by_globals id old new e other h = ap (λ (m : IdsToIndices). numbers_in m other) e ∙ other_than_globals _ old other h

pub keeps_by_data : (id : ℕ) (old new : IdsToIndices) → new ≡ with_number Data id id old → KeepsOtherNumbers Data old new
keeps_by_data id old new e other h = ap (λ (m : IdsToIndices). numbers_in m other) e ∙ other_than_data _ old other h

pub keeps_all : (space : Space) (old new : IdsToIndices) → new ≡ old → KeepsOtherNumbers space old new
keeps_all space old new e other h = ap (λ (m : IdsToIndices). numbers_in m other) e

-- ---- one change after the other

pub source_kept : (old middle new : Spaces) → KeepsSourceIndices old middle → KeepsSourceIndices middle new → KeepsSourceIndices old new
source_kept old middle new p q = record {
  indices = q.indices ∙ p.indices;
  more_imports = q.more_imports ∙ p.more_imports;
  more_functions = q.more_functions ∙ p.more_functions;
  locals = q.locals ∙ p.locals;
}

pub numbers_kept : (space : Space) (old middle new : Spaces) → ChangesNumbersOf space old middle → ChangesNumbersOf space middle new → ChangesNumbersOf space old new
numbers_kept space old middle new p q = record {
  kept = source_kept old middle new p.kept q.kept;
  numbers = λ other h. q.numbers other h ∙ p.numbers other h;
}

pub nothing_changed : (space : Space) (s : Spaces) → ChangesNumbersOf space s s
nothing_changed space s = record {
  kept = record { indices = refl; more_imports = refl; more_functions = refl; locals = refl };
  numbers = λ other h. refl;
}

-- ---- data segments

got_one : (m : FinMap nat_cmp ℕ) (k v q : ℕ) (b : Bool) → (q == k) ≡ b → get (insert m k v) q ≡ cond b (Some v) (get m q)
got_one m k v q b e = get-insert nat_cmp_total m k v q ∙ ap (λ (c : Bool). cond c (Some v) (get m q)) (unsigned_tied q k ∙ e)

number_here : (m new : IdsToIndices) (id : ℕ) → new ≡ with_number Data id id m → number_of new Data id ≡ Ok id
number_here m new id e =
    ap (λ (k : IdsToIndices). number_of k Data id) e
    ∙ ap (λ (o : Option ℕ). some_or o (Unnumbered Data)) (got_one m.«data» id id id true (eq-eqb id id refl))

number_elsewhere : (m new : IdsToIndices) (id q : ℕ) → new ≡ with_number Data id id m → (q ≡ id → ⊥) → number_of new Data q ≡ number_of m Data q
number_elsewhere m new id q e h =
    ap (λ (k : IdsToIndices). number_of k Data q) e
    ∙ ap (λ (o : Option ℕ). some_or o (Unnumbered Data)) (got_one m.«data» id id q false (ne_eqb q id h))

pub none_numbered : (count : ℕ) (s : Spaces) → count ≡ s.counts.«data» → NumbersData count s s
none_numbered count s e = record { numbers = λ id low high. absurd (omega (arith, low, high, e)); earlier = λ id h. refl }

pub one_numbered :
    (count id : ℕ) (old middle new : Spaces) → id ≡ count → old.counts.«data» ≤ count → NumbersData count old middle → DefinesData id middle new →
    NumbersData (count + 1) old new
one_numbered count id old middle new same from p d =
    let other : (q : ℕ) → (q ≡ id → ⊥) → number_of new.numbers Data q ≡ number_of middle.numbers Data q =
    λ q h. number_elsewhere middle.numbers new.numbers id q d.numbers h in
    record {
      numbers = λ q low high. elim (cases_eq q id) [
        | inl here ↦ ap (λ (k : ℕ). number_of new.numbers Data k) here ∙ number_here middle.numbers new.numbers id d.numbers ∙ ap (λ (k : ℕ). Ok k) (sym here)
        | inr else ↦ other q else ∙ p.numbers q low (omega (arith, high, else, same))
      ];
      earlier = λ q h. other q (λ here. omega (arith, h, here, same, from)) ∙ p.earlier q h;
    }

pub all_numbered : (reached count : ℕ) (old new : Spaces) → count ≤ reached → NumbersData reached old new → NumbersData count old new
all_numbered reached count old new h p = record { numbers = λ id low high. p.numbers id low (omega (arith, h, high)); earlier = p.earlier }

-- ---- refusals

-- after one more id got a number, it has the number of ids that had one before
next_number : (m : FinMap nat_cmp ℕ) (id : ℕ) → get (insert m id (len m)) id ≡ Some (len m)
next_number m id = got_one m id (len m) id true (eq-eqb id id refl)

module _ (space : Space) (m : FinMap nat_cmp ℕ) (id : ℕ) where
  -- something is found
  pub found : some_or (get (insert m id (len m)) id) (Unnumbered space) ≡ Ok (len m)
  found = ap (λ (o : Option ℕ). some_or o (Unnumbered space)) (next_number m id)

  same_found : (n : ℕ) (r : Result ℕ IndexError) → r ≡ Ok n → r ≡ some_or (get (insert m id (len m)) id) (Unnumbered space) → n ≡ len m
  same_found n r is by = let both : ◌≡◌ {A = Result ℕ IndexError} (Ok n) (Ok (len m)) = sym is ∙ by ∙ found in ok_same both
    where
      ok_same : {E : Type 0} {a b : ℕ} → ◌≡◌ {A = Result ℕ E} (Ok a) (Ok b) → a ≡ b
      ok_same {E} h = search rules

  -- what is found is another number than the id
  pub other_next : (n : ℕ) (r : Result ℕ IndexError) → r ≡ Ok n → r ≡ some_or (get (insert m id (len m)) id) (Unnumbered space) → (n ≡ id → ⊥) → len m ≢ id
  other_next n r is by differs same = differs (same_found n r is by ∙ same)
