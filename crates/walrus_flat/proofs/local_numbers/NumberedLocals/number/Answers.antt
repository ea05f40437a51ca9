use Rattle.std.proofs.Common.{◌≡◌, None, slice_get, sym, ap, ◌∙◌, rules}
use Rattle.std.specs.Option.{option_flatten, option_or}
use Rattle.walrus_maps.proofs.EntryMaps.{get-entries}
use Rattle.walrus_numbering.specs.EmittedLocals.{number_in}
use Rattle.walrus_flat.proofs.NumberedLocals.{in_table_or_map}
use Rattle.walrus_flat.proofs.local_numbers.NumberedLocals.number.Goals as goal

pub returns-in-None : goal.returns-in-None
returns-in-None c =
    let n = c.args.self.now in
    let id = c.args.local in
    let found = get-entries n.map.entries id in
    let in_map : c.copied.result ≡ number_in n.map.entries id = grind (found, c.get.ensures.value, c.copied.ensures, rules) in
    let none : option_flatten (slice_get n.table.items id) ≡ None =
    ap (λ t. option_flatten (slice_get t id)) (sym c.deref.ensures.value) ∙ (sym c.number_at.ensures ∙ c.in-None.is) in
    in_map ∙ sym (in_table_or_map n id ∙ ap (λ o. option_or o (number_in n.map.entries id)) none)
