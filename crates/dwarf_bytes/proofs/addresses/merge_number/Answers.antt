use Rattle.std.proofs.Common.{◌≡◌, ◌⊎◌, ◌<◌, ◌^◌, ◌++◌, ◌∷◌, [], ℕ, List, Result, Ok, Err, inl, inr, ap, sym, ◌∙◌}
use Rattle.std.specs.Prelude.{OnOk, IfErr}
use Rattle.std.proofs.lemmas.Bool.{lt-ltb}
use Rattle.dwarf_bytes.specs.declared.fault.DebugError.{DebugError}
use Rattle.dwarf_bytes.specs.declared.fault.DebugError.TheVariants.{Memory, Fault}
use Rattle.dwarf_bytes.specs.declared.fault.DebugFault.{DebugFault}
use Rattle.dwarf_bytes.specs.declared.size.Size.{Size}
use Rattle.dwarf_bytes.specs.Merging.{Merging, merging, AreMerged, IsFaultOfMerging, part_merged, IsNotMerged}
use Rattle.dwarf_bytes.specs.Numbers.{size_in_bytes}
use Rattle.dwarf_bytes.specs.Patches.{part_of, sized_part_of}
use Rattle.dwarf_bytes.specs.Writing.{fixed_bytes}
use Rattle.dwarf_bytes.proofs.addresses.merge_number.Goals as goal

module _ (at old : ℕ) (size : Size) (n : ℕ) (small : n < 256 ^ size_in_bytes size) (bytes : List ℕ) (written : bytes ≡ fixed_bytes (size_in_bytes size) n) (m : Merging) where
  merged : {A E : Type 0} (r : Result A E) (new : Merging) → OnOk r (new ≡ part_merged (part_of at old bytes) m) → OnOk r (AreMerged (sized_part_of at old size n ∷ []) m new)
  merged (Ok x) new e = rw (lt-ltb n (256 ^ size_in_bytes size) small) (e ∙ ap (λ (b : List ℕ). part_merged (part_of at old b) m) written)
  merged (Err f) new e = e

  refused : {A : Type 0} (r : Result A DebugError) → IfErr r (λ e. (e ≡ Memory) ⊎ ((fault : DebugFault) × (e ≡ Fault fault) × IsNotMerged (part_of at old bytes) m fault))
      → IfErr r (λ e. (e ≡ Memory) ⊎ ((fault : DebugFault) × (e ≡ Fault fault) × IsFaultOfMerging (sized_part_of at old size n ∷ []) m fault))
  refused (Ok x) h = h
  refused (Err e) (inl memory) = inl memory
  refused (Err e) (inr x) = inr (x.0, x.1, rw (lt-ltb n (256 ^ size_in_bytes size) small) (inl (rw (sym written) x.2)))

pub returns-clause-merged : goal.returns-clause-merged
returns-clause-merged c =
    let written = c.deref.ensures.value ∙ c.in_ok-write_sized.ensures.written ∙ ap (λ (l : List ℕ). l ++ fixed_bytes (size_in_bytes c.args.size) c.args.number) c.clear.ensures.items in
    merged c.args.place.0 c.args.place.1 c.args.size c.args.number c.in_ok-write_sized.ensures.fits c.deref.result.now written (merging c.args.all.now) c.push.result (merging c.push.new.self) c.push.ensures.merged

pub returns-clause-refused : goal.returns-clause-refused
returns-clause-refused c =
    let written = c.deref.ensures.value ∙ c.in_ok-write_sized.ensures.written ∙ ap (λ (l : List ℕ). l ++ fixed_bytes (size_in_bytes c.args.size) c.args.number) c.clear.ensures.items in
    refused c.args.place.0 c.args.place.1 c.args.size c.args.number c.in_ok-write_sized.ensures.fits c.deref.result.now written (merging c.args.all.now) c.push.result c.push.ensures.refused
