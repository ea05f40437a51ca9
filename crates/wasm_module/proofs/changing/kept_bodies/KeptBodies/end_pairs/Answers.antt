use Rattle.std.proofs.Common.{◌≡◌, ◌≤◌, [], length, drop, Option, Some, is_some, true, false, sym, ap, subst, ◌∙◌, rules, arith}
use Rattle.std.proofs.lemmas.Slice.{between_to_end}
use Rattle.location_pairs.specs.declared.packing.Packer.{Packer}
use Rattle.location_pairs.specs.PackedPairs.{packed_pairs}
use Rattle.wasm_module.specs.KeptCode.{pack_if}
use Rattle.wasm_module.specs.KeptPieces.{HasTaken}
use Rattle.wasm_module.proofs.KeptPairLemmas.{no_part}
use Rattle.wasm_module.proofs.KeptPieceLemmas.{packs_before, are_packs, room_filled}
use Rattle.wasm_module.proofs.changing.kept_bodies.KeptBodies.end_pairs.Goals as goal

pub invariant_of-self : goal.invariant_of-self
invariant_of-self c =
    let t = c.requires.taken in
    let old = c.args.self.now in
    let p = c.in-Some.packer in
    let taken = subst (λ (o : Option Packer). HasTaken t.0 old t.3 o t.1 t.2) c.in-Some.is t.4 in
    let longer = c.end.new.packed.items in
    let front = room_filled t.0 old t.3 p t.1 t.2 taken longer c.end.ensures.unchanged in
    record { within = old.within; packs = are_packs t.0 old t.3 (Some p) t.1 t.2 taken longer front }

pub returns-clause-packs : goal.returns-clause-packs
returns-clause-packs c = λ was raw ps from t.
    let old = c.args.self.now in
    let p = c.in-Some.packer in
    let taken = subst (λ (o : Option Packer). HasTaken was old from o raw ps) c.in-Some.is t in
    let longer = c.end.new.packed.items in
    let front = room_filled was old from p raw ps taken longer c.end.ensures.unchanged in
    let packed : drop c.in_ok-from.from longer ≡ packed_pairs ps = c.in_ok-from.ensures.packed ps taken.packed.1 in
    let whole : length longer ≤ c.len-to.result = search (arith, rules) in
    let is : pack_if (is_some c.args.packer) ps ≡ packed_pairs ps = ap (λ (o : Option Packer). pack_if (is_some o) ps) c.in-Some.is in (
      packs_before was old from (Some p) raw ps taken longer front,
      between_to_end longer c.in_ok-from.from c.len-to.result whole ∙ packed ∙ sym is,
      λ some. c.end.ensures.fit ps taken.packed.1,
    )

pub returns-in_default-clause-packs : goal.returns-in_default-clause-packs
returns-in_default-clause-packs c = λ was raw ps from taken.
    let old = c.args.self.now in
    let all = old.pairs.items in
    let none : pack_if (is_some c.args.packer) ps ≡ [] = ap (λ (o : Option Packer). pack_if (is_some o) ps) c.in_default.is in (
      packs_before was old from c.args.packer raw ps taken all taken.front_is,
      no_part all c.len-end.result ∙ sym none,
      λ some. let no : false ≡ true = sym (ap (λ (o : Option Packer). is_some o) c.in_default.is) ∙ some in absurd cc,
    )
