-- The numbers of locals, in a table and in a map.
use Rattle.std.proofs.Common.{◌≡◌, ℕ, Some, slice_get, ap, ◌∙◌}
use Rattle.std.specs.Option.{option_flatten, option_or}
use Rattle.walrus_numbering.specs.EmittedLocals.{number_in}
use Rattle.walrus_numbering.proofs.ListedLocals.{in_table_or}
use Rattle.walrus_flat.specs.declared.local_numbers.NumberedLocals.{NumberedLocals}
use Rattle.walrus_flat.specs.UsedLocals.{entries_of}

module _ (n : NumberedLocals) (id : ℕ) where
  -- the number in the table, or else that in the map
  pub in_table_or_map : number_in (entries_of n) id ≡ option_or (option_flatten (slice_get n.table.items id)) (number_in n.map.entries id)
  in_table_or_map = in_table_or n.map.entries n.table.items id

  -- a number in the table
  pub in_table_at_least : (k : ℕ) → option_flatten (slice_get n.table.items id) ≡ Some k → number_in (entries_of n) id ≡ Some k
  in_table_at_least k is = in_table_or_map ∙ ap (λ o. option_or o (number_in n.map.entries id)) is
