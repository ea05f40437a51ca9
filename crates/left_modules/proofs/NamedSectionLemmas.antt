-- Sections with the names of others, and what is written of them.
use Rattle.std.proofs.Common.{◌≡◌, ℕ, ◌+◌, ◌<◌, ◌≤◌, List, [], ◌∷◌, ◌++◌, length, get_or, drop, refl, sym, ap, ◌∙◌, subst, append_assoc, append-nil}
use Rattle.std.proofs.lemmas.List.{drop_more, drop_all}
use Rattle.module_debug.specs.declared.sections.DebugSection.{DebugSection}
use Rattle.module_debug.specs.Sections.{custom, AreDebugSections as AreSections}
use Rattle.left_modules.specs.NamedSections.{AreNamedAs}

-- What is written of sections with the names of these is of these.
pub written_named : (ss ts : List DebugSection) (bytes : List ℕ) → AreNamedAs ss ts → AreSections ts bytes → AreSections ss bytes
written_named [] ts bytes named written = subst (λ (l : List DebugSection). AreSections l bytes) named written
written_named (s ∷ ss) ts bytes (t, rest, is, name, named) written =
    let all : AreSections (t ∷ rest) bytes = subst (λ (l : List DebugSection). AreSections l bytes) is written in (
      all.0,
      all.1,
      all.2 ∙ ap (λ (n : List ℕ). custom n all.0 ++ all.1) name,
      written_named ss rest all.1 named all.3,
    )

-- Sections up to this index were given their names: with those that follow all have them.
abbrev pub NamedSoFar : (sections : List DebugSection) (index : ℕ) (all : List DebugSection) → Type 0
NamedSoFar sections index all = (more : List DebugSection) → AreNamedAs (drop index sections) more → AreNamedAs sections (all ++ more)

pub begun_named : (sections all : List DebugSection) → all ≡ [] → NamedSoFar sections 0 all
begun_named sections all none more h = subst (λ (l : List DebugSection). AreNamedAs sections (l ++ more)) (sym none) h

pub one_more_named : (sections : List DebugSection) (index : ℕ) (d t : DebugSection) (all after : List DebugSection)
    → index < length sections → t.name.now ≡ (get_or sections index d).name.now → after ≡ all ++ t ∷ [] → NamedSoFar sections index all
    → NamedSoFar sections (index + 1) after
one_more_named sections index d t all after within name is before more h =
    let next : drop index sections ≡ get_or sections index d ∷ drop (index + 1) sections = drop_more sections index d within in
    let named = before (t ∷ more) (subst (λ (l : List DebugSection). AreNamedAs l (t ∷ more)) (sym next) (t, more, refl, name, h)) in
    subst (λ (l : List DebugSection). AreNamedAs sections (l ++ more)) (sym is)
    (subst (AreNamedAs sections) (sym (append_assoc all (t ∷ []) more)) named)

pub all_named : (sections : List DebugSection) (index : ℕ) (all : List DebugSection) → length sections ≤ index → NamedSoFar sections index all → AreNamedAs sections all
all_named sections index all past so_far =
    let rest : drop index sections ≡ [] = drop_all index sections past in
    subst (AreNamedAs sections) (append-nil all) (so_far [] (subst (λ (l : List DebugSection). AreNamedAs l []) (sym rest) refl))
