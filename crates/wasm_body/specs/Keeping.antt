-- While a sequence is read: whether an operator in it has cut off the rest of the sequence.
use Rattle.std.specs.Prelude.{Bool, true, false}
use Rattle.walrus_ir.specs.Tree.{Items, no_items, item}
use Rattle.wasm_body.specs.SourceTree.{Sequence, Empty, Single, Wrapped, IfThen, IfElse, TryCatch, TryDelegate}
use Rattle.wasm_body.specs.NormalForm.{Fate, Drops, Stays, MakesUnreachable, fate}

abbrev pub unreachable_after : Fate → Bool → Bool
unreachable_after Drops rest = rest
unreachable_after Stays rest = rest
unreachable_after MakesUnreachable rest = true

-- whether the operators that follow the sequence are dropped
abbrev pub is_unreachable_after : {A : Type 0} → Sequence A → Bool
is_unreachable_after Empty = false
is_unreachable_after (Single a action r) = unreachable_after (fate action) (is_unreachable_after r)
is_unreachable_after (Wrapped a w b e r) = is_unreachable_after r
is_unreachable_after (IfThen a b e r) = is_unreachable_after r
is_unreachable_after (IfElse a b l c e r) = is_unreachable_after r
is_unreachable_after (TryCatch a b cs r) = is_unreachable_after r
is_unreachable_after (TryDelegate a b e n r) = is_unreachable_after r

-- items after others
abbrev pub joined_items : {S I : Type 0} → Items S I → Items S I → Items S I
joined_items no_items js = js
joined_items (item i ss r) js = item i ss (joined_items r js)

-- items after those of a sequence, which drops them if it is unreachable
abbrev pub joined_alive : {S I : Type 0} → Bool → Items S I → Items S I → Items S I
joined_alive true is js = is
joined_alive false is js = joined_items is js
