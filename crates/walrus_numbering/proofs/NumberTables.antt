-- The numbers of a function's locals in a table by id.
use Rattle.std.proofs.Common.{◌≡◌, ◌⊎◌, ℕ, zero, suc, List, [], ◌++◌, Option, Some, None, slice_get, replicate, take, inl, inr, sym, ap, ◌∙◌, arith}
use Rattle.std.proofs.lemmas.List.{take_all}
use Rattle.std.specs.List.{All}
use Rattle.std.specs.Map.{lookup}
use Rattle.std.specs.Option.{option_flatten}
use Rattle.walrus_maps.proofs.EntryMaps.{same_id, get-entries}
use Rattle.walrus_numbering.specs.EmittedLocals.{number_in}
use Rattle.walrus_numbering.specs.NumberTables.{HasNumbers}

-- each entry has the number of its id
pub are_numbered : (es : List (ℕ × ℕ)) → All (λ e. lookup (same_id e.0) es ≡ Some e.1) es → All (λ e. number_in es e.0 ≡ Some e.1) es
are_numbered es found k d within = get-entries es _ ∙ found k d within

-- a table without numbers
no_number : (P : Type 0) (m id n : ℕ) → option_flatten (slice_get (replicate m None) id) ≡ Some n → P
no_number P zero id n found = absurd cc
no_number P (suc m) zero n found = absurd cc
no_number P (suc m) (suc id) n found = no_number P m id n found

pub none_there_yet : (es : List (ℕ × ℕ)) (count : ℕ) (before table : List (Option ℕ)) (m : ℕ) → before ≡ [] → table ≡ take count before ++ replicate m None
    → HasNumbers es table
none_there_yet es count before table m empty is id n found =
    let blank = is ∙ (ap (λ xs. take count xs ++ replicate m None) empty ∙ ap (λ xs. xs ++ replicate m None) (take_all count [] (omega arith))) in
    no_number (number_in es id ≡ Some n) m id n (ap (λ xs. option_flatten (slice_get xs id)) (sym blank) ∙ found)

-- a number that is put into the table
put_one : (es : List (ℕ × ℕ)) (old : List (Option ℕ)) (k v id n : ℕ) → number_in es k ≡ Some v → HasNumbers es old
    → ((id ≡ k) × (n ≡ v)) ⊎ (option_flatten (slice_get old id) ≡ Some n) → number_in es id ≡ Some n
put_one es old k v id n is has (inl same) = ap (number_in es) same.0 ∙ (is ∙ ap Some (sym same.1))
put_one es old k v id n is has (inr there) = has id n there

pub number_put : (es : List (ℕ × ℕ)) (old new : List (Option ℕ)) (k v : ℕ) → number_in es k ≡ Some v → HasNumbers es old
    → ((id n : ℕ) → option_flatten (slice_get new id) ≡ Some n → ((id ≡ k) × (n ≡ v)) ⊎ (option_flatten (slice_get old id) ≡ Some n))
    → HasNumbers es new
number_put es old new k v is has put id n found = put_one es old k v id n is has (put id n found)
