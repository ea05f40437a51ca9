-- The clauses of a legacy `try` that have a handler.
use Rattle.std.proofs.Common.{◌≡◌, ◌+◌, ◌≤◌, List, ◌∷◌, Bool, true, false, cond, length, count_by, refl, arith}
use Rattle.std.proofs.lemmas.List.Sums.{count_by-le-length}
use Rattle.std.proofs.lemmas.List.Recursion.{is_count_by}
use Rattle.walrus_ir.specs.declared.control.LegacyCatch.{LegacyCatch}
use Rattle.walrus_ir.specs.declared.control.LegacyCatch.TheVariants.{Delegate}
use Rattle.walrus_ir.specs.Unfolding.{handlers}

abbrev pub has_handler : LegacyCatch → Bool
has_handler (Delegate n) = false
has_handler _ = true

one_more : (c : LegacyCatch) (cs : List LegacyCatch) → length (handlers (c ∷ cs)) ≡ cond (has_handler c) (1 + length (handlers cs)) (length (handlers cs))
one_more (Delegate n) cs = refl
one_more _ cs = omega arith

pub length-handlers : (cs : List LegacyCatch) → length (handlers cs) ≡ count_by has_handler cs
length-handlers cs = is_count_by (λ ds. length (handlers ds)) has_handler refl one_more cs

pub length-handlers-le : (cs : List LegacyCatch) → length (handlers cs) ≤ length cs
length-handlers-le cs = rw (length-handlers cs) (count_by-le-length has_handler cs)
