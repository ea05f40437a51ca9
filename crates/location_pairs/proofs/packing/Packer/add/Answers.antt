use Rattle.std.proofs.Common.{ℕ, ◌+◌, ◌++◌, drop, length, length-append, sym, ap, ◌∙◌, arith}
use Rattle.std.proofs.lemmas.List.{drop-append-le}
use Rattle.location_pairs.specs.PackedPairs.{packed_after, last_after}
use Rattle.location_pairs.proofs.PackedPairs.{same_pair, last_both, packed_both, all_both}
use Rattle.location_pairs.proofs.packing.Packer.add.Goals as goal

pub returns-clause-packed : goal.returns-clause-packed
returns-clause-packed c = λ before h.
    let ps = c.args.pairs.now in
    let last = c.args.self.now.last in
    let begin = c.args.self.now.begin in
    let old = c.args.packed.now.items in
    let all = c.in_ok-self.ensures in
    let more = packed_after last.location last.place ps in
    let same = same_pair (last.location, last.place) (last_after (0, 0) before) h.location_is h.place_is in
    record {
      has_room = omega (arith, h.has_room, ap length all.packed, length-append old more);
      packed_are =
          ap (drop (begin + 10)) all.packed ∙ drop-append-le (begin + 10) old more h.has_room
          ∙ (λ i. h.packed_are i ++ packed_after (h.location_is i) (h.place_is i) ps) ∙ sym (packed_both (0, 0) before ps);
      count_is = omega (arith, c.in-Some.ensures, h.count_is, length-append before ps);
      location_is = all.location ∙ ap (λ (p : ℕ × ℕ). (last_after p ps).0) same ∙ ap (λ (p : ℕ × ℕ). p.0) (sym (last_both (0, 0) before ps));
      place_is = all.place ∙ ap (λ (p : ℕ × ℕ). (last_after p ps).1) same ∙ ap (λ (p : ℕ × ℕ). p.1) (sym (last_both (0, 0) before ps));
      fit = all_both before ps h.fit all.fit;
    }
