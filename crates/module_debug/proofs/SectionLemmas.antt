-- Sections that are written one after the other.
use Rattle.std.proofs.Common.{◌≡◌, ℕ, ◌+◌, ◌<◌, ◌≤◌, List, [], ◌∷◌, ◌++◌, length, get_or, drop, Option, Some, None, refl, sym, ap, ◌∙◌, subst, append_assoc, append-nil, arith}
use Rattle.std.proofs.lemmas.List.{drop_more, drop_all}
use Rattle.std.specs.Io.KnownBytes.{Appends}
use Rattle.wasm_module.specs.Pieces.{appends_then}
use Rattle.module_debug.specs.declared.sections.DebugSection.{DebugSection}
use Rattle.module_debug.specs.Sections.{custom, AreDebugSections as AreSections}

-- Sections up to this one were written: with those that follow they are all.
pub record WrittenSoFar (sections : List DebugSection) (index : ℕ) (old now : Option (List ℕ)) : Type 0 where
  pub done : List ℕ
  pub appended : Appends old now done
  pub whole : (more : List ℕ) → AreSections (drop index sections) more → AreSections sections (done ++ more)

nothing : (a : Option (List ℕ)) → Appends a a []
nothing None = tt
nothing (Some xs) = sym (append-nil xs)

pub begun : (sections : List DebugSection) (a : Option (List ℕ)) → WrittenSoFar sections 0 a a
begun sections a = record { done = []; appended = nothing a; whole = λ more h. h }

pub one_more : (sections : List DebugSection) (index : ℕ) (d : DebugSection) (contents : List ℕ) (a b c : Option (List ℕ))
    → index < length sections → WrittenSoFar sections index a b → Appends b c (custom (get_or sections index d).name.now contents)
    → WrittenSoFar sections (index + 1) a c
one_more sections index d contents a b c within before added =
    let text = custom (get_or sections index d).name.now contents in
    record {
      done = before.done ++ text;
      appended = appends_then a b c before.done text before.appended added;
      whole = λ more h.
          let next : drop index sections ≡ get_or sections index d ∷ drop (index + 1) sections = drop_more sections index d within in
          let all = before.whole (text ++ more) (subst (λ (l : List DebugSection). AreSections l (text ++ more)) (sym next) (contents, more, refl, h)) in
          subst (AreSections sections) (sym (append_assoc before.done text more)) all;
    }

pub all_written : (sections : List DebugSection) (index : ℕ) (a b : Option (List ℕ)) → length sections ≤ index → WrittenSoFar sections index a b
    → (bytes : List ℕ) × AreSections sections bytes × Appends a b bytes
all_written sections index a b past so_far =
    let rest : drop index sections ≡ [] = drop_all index sections past in
    let all = so_far.whole [] (subst (λ (l : List DebugSection). AreSections l []) (sym rest) refl) in
    (so_far.done, subst (AreSections sections) (append-nil so_far.done) all, so_far.appended)
