use Rattle.std.proofs.Common.{◌≡◌, ◌⊎◌, ◌<◌, ◌≤◌, ◌+◌, ◌^◌, ◌-◌, ltb, ◌++◌, ◌∷◌, [], ℕ, List, Result, Ok, Err, inl, inr, refl, ap, sym, ◌∙◌, arith}
use Rattle.std.specs.Prelude.{OnOk, IfErr}
use Rattle.std.proofs.lemmas.Bool.{ltb-true, lt-ltb, le-leb, lt-leb}
use Rattle.std.proofs.lemmas.Result.{err_from_is_err_and}
use Rattle.wasm_numbers.specs.Results.{unless}
use Rattle.wasm_numbers.proofs.ResultLemmas.{unless_ok}
use Rattle.dwarf_bytes.specs.declared.fault.DebugError.{DebugError}
use Rattle.dwarf_bytes.specs.declared.fault.DebugError.TheVariants.{Memory, Fault}
use Rattle.dwarf_bytes.specs.declared.fault.DebugFault.{DebugFault}
use Rattle.dwarf_bytes.specs.declared.fault.DebugFault.TheVariants.{Overlap, BadOffset}
use Rattle.dwarf_bytes.specs.declared.size.Size.{Size}
use Rattle.dwarf_bytes.specs.Changes.{SectionChange, end_from}
use Rattle.dwarf_bytes.specs.Numbers.{size_in_bytes}
use Rattle.dwarf_bytes.specs.Patches.{changes, part_of}
use Rattle.dwarf_bytes.specs.Uses.{number_at_replaced}
use Rattle.dwarf_bytes.specs.Writing.{fixed_bytes}
use Rattle.dwarf_bytes.proofs.addresses.push_number.Goals as goal

module _ (at : ℕ) (size : Size) (n : ℕ) (cs : List SectionChange) (small : n < 256 ^ size_in_bytes size) where
  module _ (room : at + size_in_bytes size < 2 ^ 64) where
    pushed : {A E : Type 0} (r : Result A E) (ds : List SectionChange) (k : ℕ) (bytes : List ℕ) → k ≡ size_in_bytes size → bytes ≡ fixed_bytes (size_in_bytes size) n
        → OnOk r (ds ≡ cs ++ (part_of at k bytes) ∷ []) → OnOk r (end_from 0 cs ≤ at) → OnOk r (number_at_replaced at size n cs ≡ Ok ds)
    pushed (Ok x) ds k bytes is written e le =
        let size_is = ap (λ (k : ℕ). part_of at k (fixed_bytes (size_in_bytes size) n)) (sym is) in
        let part_is = size_is ∙ ap (λ (b : List ℕ). part_of at k b) (sym written) in
        rw (lt-ltb n (256 ^ size_in_bytes size) small, lt-ltb (at + size_in_bytes size) (2 ^ 64) room, le-leb (end_from 0 cs) at le)
        (ap (λ (c : SectionChange). Ok (cs ++ c ∷ [])) part_is ∙ ap Ok (sym e))
    pushed (Err f) ds k bytes is written e le = e

    refused : {A : Type 0} (r : Result A DebugError) (k : ℕ) → k ≡ size_in_bytes size
        → IfErr r (λ e. (e ≡ Memory) ⊎ (((e ≡ Fault Overlap) × (at < end_from 0 cs)) ⊎ ((e ≡ Fault BadOffset) × (2 ^ 64 - 1 < at + k))))
        → IfErr r (λ e. (e ≡ Memory) ⊎ ((fault : DebugFault) × (e ≡ Fault fault) × (number_at_replaced at size n cs ≡ Err fault)))
    refused (Ok x) k is h = h
    refused (Err e) k is (inl memory) = inl memory
    refused (Err e) k is (inr (inl overlap)) =
        inr (Overlap, overlap.0, rw (lt-ltb n (256 ^ size_in_bytes size) small, lt-ltb (at + size_in_bytes size) (2 ^ 64) room, lt-leb (end_from 0 cs) at overlap.1) refl)
    refused (Err e) k is (inr (inr offset)) = absurd (omega (arith, is, offset.1, room))

  no_room : (fault : DebugFault) → unless (ltb (at + size_in_bytes size) (2 ^ 64)) BadOffset ≡ Err fault → number_at_replaced at size n cs ≡ Err fault
  no_room fault e = rw (lt-ltb n (256 ^ size_in_bytes size) small, e) refl

room_of : (at : ℕ) (size : Size) (u : Unit {0}) → Ok u ≡ unless (ltb (at + size_in_bytes size) (2 ^ 64)) BadOffset → at + size_in_bytes size < 2 ^ 64
room_of at size u e = ltb-true (at + size_in_bytes size) (2 ^ 64) (unless_ok (ltb (at + size_in_bytes size) (2 ^ 64)) BadOffset u (sym e))

pub returns-in_err-check_place-clause-refused : goal.returns-in_err-check_place-clause-refused
returns-in_err-check_place-clause-refused c =
    let p = err_from_is_err_and c.from_residual-in_err-check_place.result c.from_residual-in_err-check_place.ensures.1 in
    rw (p.1, p.2) (inr (
      _,
      refl,
      no_room c.args.at c.args.size c.args.number (changes c.args.patches.now) c.in_ok-write_sized.ensures.fits c.in_err-check_place.field-0.0 (sym c.in_err-check_place.ensures),
    ))

pub returns-clause-replaced : goal.returns-clause-replaced
returns-clause-replaced c =
    let written = c.deref.ensures.value ∙ c.in_ok-write_sized.ensures.written ∙ ap (λ (l : List ℕ). l ++ fixed_bytes (size_in_bytes c.args.size) c.args.number) c.new-scratch.ensures.items in
    let room = room_of c.args.at c.args.size tt c.in_ok-check_place.ensures in
    pushed c.args.at c.args.size c.args.number (changes c.args.patches.now) c.in_ok-write_sized.ensures.fits room c.push.result (changes c.push.new.self) c.bytes.result c.deref.result.now
    c.bytes.ensures written c.push.ensures.pushed c.push.ensures.after

pub returns-clause-refused : goal.returns-clause-refused
returns-clause-refused c =
    let room = room_of c.args.at c.args.size tt c.in_ok-check_place.ensures in
    refused c.args.at c.args.size c.args.number (changes c.args.patches.now) c.in_ok-write_sized.ensures.fits room c.push.result c.bytes.result c.bytes.ensures c.push.ensures.refused
