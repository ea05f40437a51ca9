use Rattle.std.proofs.Common.{◌≡◌, ◌<◌, ◌≤◌, ◌+◌, ◌^◌, ◌-◌, ◌⊎◌, ◌++◌, ◌∷◌, [], ℕ, List, Result, Ok, Err, inl, inr, refl, ap, sym, ◌∙◌, arith}
use Rattle.std.specs.Prelude.{OnOk, IfErr}
use Rattle.std.proofs.lemmas.Bool.{ne_eqb, lt-ltb, le-ltb}
use Rattle.dwarf_bytes.specs.declared.fault.DebugError.{DebugError}
use Rattle.dwarf_bytes.specs.declared.fault.DebugError.TheVariants.{Memory, Fault}
use Rattle.dwarf_bytes.specs.declared.fault.DebugFault.{DebugFault}
use Rattle.dwarf_bytes.specs.declared.fault.DebugFault.TheVariants.{Overlap, BadOffset}
use Rattle.dwarf_bytes.specs.declared.size.Size.{Size}
use Rattle.dwarf_bytes.specs.Changes.{SectionChange, end_from}
use Rattle.dwarf_bytes.specs.Numbers.{size_in_bytes}
use Rattle.dwarf_bytes.specs.Patches.{changes, part_of}
use Rattle.dwarf_bytes.specs.Writing.{fixed_bytes}
use Rattle.dwarf.specs.Replacing.{number_replaced}
use Rattle.dwarf.proofs.replacing.replace_number.Goals as goal

module _ (at : ℕ) (size : Size) (old new : ℕ) (cs : List SectionChange) (differ : old ≡ new → ⊥) (small : new < 256 ^ size_in_bytes size) where
  pushed : {A E : Type 0} (r : Result A E) (ds : List SectionChange) (n : ℕ) (bytes : List ℕ) → n ≡ size_in_bytes size → bytes ≡ fixed_bytes (size_in_bytes size) new
      → OnOk r (ds ≡ cs ++ (part_of at n bytes) ∷ []) → OnOk r (end_from 0 cs ≤ at) → OnOk r (number_replaced at size old new cs ≡ Ok ds)
  pushed (Ok x) ds n bytes is written e le =
      let size_is = ap (λ (k : ℕ). part_of at k (fixed_bytes (size_in_bytes size) new)) (sym is) in
      let part_is = size_is ∙ ap (λ (b : List ℕ). part_of at n b) (sym written) in
      rw (ne_eqb old new differ, lt-ltb new (256 ^ size_in_bytes size) small, le-ltb at (end_from 0 cs) le)
      (ap (λ (c : SectionChange). Ok (cs ++ c ∷ [])) part_is ∙ ap Ok (sym e))
  pushed (Err f) ds n bytes is written e le = e

  refused : {A : Type 0} (r : Result A DebugError) (n : ℕ) → n ≡ size_in_bytes size → at + size_in_bytes size ≤ 2 ^ 64 - 1
      → IfErr r (λ e. (e ≡ Memory) ⊎ (((e ≡ Fault Overlap) × (at < end_from 0 cs)) ⊎ ((e ≡ Fault BadOffset) × (2 ^ 64 - 1 < at + n))))
      → IfErr r (λ e. (e ≡ Memory) ⊎ ((fault : DebugFault) × (e ≡ Fault fault) × (number_replaced at size old new cs ≡ Err fault)))
  refused (Ok x) n is room h = h
  refused (Err e) n is room (inl memory) = inl memory
  refused (Err e) n is room (inr (inl overlap)) =
      inr (Overlap, overlap.0, rw (ne_eqb old new differ, lt-ltb new (256 ^ size_in_bytes size) small, lt-ltb at (end_from 0 cs) overlap.1) refl)
  refused (Err e) n is room (inr (inr offset)) = absurd (omega (arith, offset.1, is, room))

pub returns-clause-replaced : goal.returns-clause-replaced
returns-clause-replaced c =
    let bytes = fixed_bytes (size_in_bytes c.args.size) c.args.new in
    let written = c.deref.ensures.value ∙ c.in_ok-write_sized.ensures.written ∙ ap (λ (l : List ℕ). l ++ bytes) c.clear.ensures.items in
    pushed c.args.at c.args.size c.args.old c.args.new (changes c.args.out.now) c.if-old-new.false c.in_ok-write_sized.ensures.fits c.push.result (changes c.push.new.self) c.bytes.result c.deref.result.now
    c.bytes.ensures written c.push.ensures.pushed c.push.ensures.after

pub returns-clause-refused : goal.returns-clause-refused
returns-clause-refused c =
    refused c.args.at c.args.size c.args.old c.args.new (changes c.args.out.now) c.if-old-new.false c.in_ok-write_sized.ensures.fits c.push.result c.bytes.result c.bytes.ensures c.requires c.push.ensures.refused
