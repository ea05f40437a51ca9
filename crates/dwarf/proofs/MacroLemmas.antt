-- Entries of macros that are passed, one after the other.
use Rattle.std.proofs.Common.{◌≡◌, ℕ, zero, suc, ◌<◌, ◌≤◌, true, false, List, [], ◌∷◌, length, Ok, Err, refl, ap, ◌∙◌, arith, if◌then◌else◌}
use Rattle.wasm_numbers.specs.Reading.{many}
use Rattle.wasm_numbers.specs.Results.{◌>>=◌}
use Rattle.dwarf_bytes.specs.declared.fault.DebugFault.{DebugFault}
use Rattle.dwarf_bytes.specs.declared.fault.DebugFault.TheVariants.{Truncated}
use Rattle.dwarf_bytes.specs.declared.size.Size.{Size}
use Rattle.dwarf.specs.Macros.{macro_entry, macros_passed, macro_entries}
use Rattle.dwarf.proofs.Repeating.{bind_fault, bind_value}

-- From these bytes on, what is passed comes to what all comes to.
pub record PassedSoFar (size : Size) (all rest : List ℕ) : Type 0 where
  pub most : ℕ
  pub enough : length rest ≤ most
  pub same : macro_entries size all ≡ macros_passed most size rest

pub none_passed : (size : Size) (all : List ℕ) → PassedSoFar size all all
none_passed size all = record { most = length all; enough = omega arith; same = refl }

no_end : (size : Size) (most : ℕ) → macros_passed most size [] ≡ Err Truncated
unfolding macros_passed many
no_end size zero = refl
no_end size (suc most) = refl

pub passed_without_end : (size : Size) (all rest : List ℕ) → PassedSoFar size all rest → rest ≡ [] → macro_entries size all ≡ Err Truncated
passed_without_end size all rest so none = so.same ∙ ap (λ (bytes : List ℕ). macros_passed so.most size bytes) none ∙ no_end size so.most

record NextPassed (size : Size) (most : ℕ) (rest : List ℕ) : Type 0 where
  n : ℕ
  enough : length rest ≤ suc n
  is : macros_passed most size rest ≡ (macro_entry size rest >>= λ more. if more.0 then macros_passed n size more.1 else Ok (tt, more.1))

next_passed : (size : Size) (most : ℕ) (rest : List ℕ) → (rest ≡ [] → ⊥) → length rest ≤ most → NextPassed size most rest
unfolding macros_passed
next_passed size most [] some enough = absurd (some refl)
next_passed size zero (b ∷ bytes) some enough = absurd (omega arith)
next_passed size (suc n) (b ∷ bytes) some enough = record { n = n; enough = enough; is = refl }

module _ (size : Size) (all rest : List ℕ) (so : PassedSoFar size all rest) (some : rest ≡ [] → ⊥) where
  next : NextPassed size so.most rest
  next = next_passed size so.most rest some so.enough

  pub entry_not_passed : (fault : DebugFault) → macro_entry size rest ≡ Err fault → macro_entries size all ≡ Err fault
  entry_not_passed fault e = so.same ∙ next.is ∙ bind_fault (macro_entry size rest) (λ more. if more.0 then macros_passed next.n size more.1 else Ok (tt, more.1)) fault e

  pub entry_passed : (after : List ℕ) → macro_entry size rest ≡ Ok (true, after) → length after < length rest → PassedSoFar size all after
  entry_passed after e less = record {
    most = next.n;
    enough = let k = next.enough in omega arith;
    same = so.same ∙ next.is ∙ bind_value (macro_entry size rest) (λ more. if more.0 then macros_passed next.n size more.1 else Ok (tt, more.1)) (true, after) e;
  }

  pub end_passed : (after : List ℕ) → macro_entry size rest ≡ Ok (false, after) → macro_entries size all ≡ Ok (tt, after)
  end_passed after e = so.same ∙ next.is ∙ bind_value (macro_entry size rest) (λ more. if more.0 then macros_passed next.n size more.1 else Ok (tt, more.1)) (false, after) e
