-- What operations do one after the other.
use Rattle.std.proofs.Common.{◌≡◌, ℕ, List, [], ◌∷◌, ◌++◌, map, refl, sym, ap, ◌∙◌, append_assoc}
use Rattle.std.proofs.lemmas.List.{append-nil, map-append}
use Rattle.code_moves.specs.declared.body.Body.{Body}
use Rattle.dwarf_line.specs.declared.operation.Operation.{Operation}
use Rattle.dwarf_line.specs.declared.place.Place.{Place}
use Rattle.dwarf_line.specs.LineProgram.{Parameters, Registers, LineState, LineRow, state_after, appended, state_after_all, all_appended}
use Rattle.dwarf_line.specs.MovedRows.{moved_row}
use Rattle.dwarf_line.specs.Operations.{line_operation}
use Rattle.dwarf_line.specs.Written.{AddsOfLines, line_state, LeadsOfLines, Carries, FollowsOfLines}
use Rattle.dwarf_line.proofs.KeptLemmas.{keeps_nothing, keeps-append}
use Rattle.dwarf_line.proofs.RepeatedLemmas.{spells-append, spells_nothing}

pub state_after_all-append : (p : Parameters) (os ps : List Operation) (s : LineState) → state_after_all p (os ++ ps) s ≡ state_after_all p ps (state_after_all p os s)
state_after_all-append p [] ps s = refl
state_after_all-append p (o ∷ os) ps s = state_after_all-append p os ps (state_after p o s)

pub all_appended-append : (p : Parameters) (os ps : List Operation) (s : LineState) → all_appended p (os ++ ps) s ≡ all_appended p os s ++ all_appended p ps (state_after_all p os s)
all_appended-append p [] ps s = refl
all_appended-append p (o ∷ os) ps s =
    ap (λ (rs : List LineRow). appended p o s ++ rs) (all_appended-append p os ps (state_after p o s))
    ∙ sym (append_assoc (appended p o s) (all_appended p os (state_after p o s)) (all_appended p ps (state_after_all p os (state_after p o s))))

-- ---- what is written

abbrev pub adds-append : (p : Parameters) (a b c : List ℕ) (os ps : List Operation) (ks ls : List (List ℕ)) → AddsOfLines p a b os ks → AddsOfLines p b c ps ls → AddsOfLines p a c (os ++ ps) (ks ++ ls)
adds-append p a b c os ps ks ls first second = record {
  text = first.text ++ second.text;
  added = second.added ∙ ap (λ (t : List ℕ). t ++ second.text) first.added ∙ append_assoc a first.text second.text;
  spells = spells-append (line_operation p) os ps first.text second.text first.spells second.spells;
  keeps = keeps-append p first.text second.text ks ls first.keeps second.keeps;
}

abbrev pub adds_nothing : (p : Parameters) (a : List ℕ) → AddsOfLines p a a [] []
adds_nothing p a = record { text = []; added = sym (append-nil a); spells = spells_nothing (line_operation p); keeps = keeps_nothing p }

pub leads-append : (p : Parameters) (os ps : List Operation) (a b c : ℕ) → LeadsOfLines p os a b → LeadsOfLines p ps b c → LeadsOfLines p (os ++ ps) a c
leads-append p os ps a b c first second = record {
  rows = λ x. rw (all_appended-append p os ps (line_state a x), first.rows x, first.after x) (second.rows x);
  after = λ x. rw (state_after_all-append p os ps (line_state a x), first.after x) (second.after x);
}

module _ (bodies : List Body) (p : Parameters) (os ps ms ns : List Operation) (a b c : Place) (first : Carries bodies p os ms a b) (second : Carries bodies p ps ns b c) where
  registers_between : Registers → Registers
  registers_between x = (state_after_all p os (line_state a.old x)).registers

  -- the state of the source between the two
  between : (x : Registers) → state_after_all p os (line_state a.old x) ≡ line_state b.old (registers_between x)
  unfolding registers_between
  between x = ap (λ n. line_state n (state_after_all p os (line_state a.old x)).registers) (first.address x)

  after_first : (x : Registers) → state_after_all p ms (line_state a.new x) ≡ line_state b.new (registers_between x)
  unfolding registers_between
  after_first x = first.after x

  both_rows : (x : Registers) → all_appended p (ms ++ ns) (line_state a.new x) ≡ map (moved_row bodies) (all_appended p (os ++ ps) (line_state a.old x))
  both_rows x =
      let y = registers_between x in
      let written = all_appended-append p ms ns (line_state a.new x) in
      let source = all_appended-append p os ps (line_state a.old x) in
      let split = map-append (moved_row bodies) (all_appended p os (line_state a.old x)) (all_appended p ps (line_state b.old y)) in
      rw (written, after_first x, source, between x, split, first.rows x, second.rows y) refl

  both_after : (x : Registers) → state_after_all p (ms ++ ns) (line_state a.new x) ≡ line_state c.new (state_after_all p (os ++ ps) (line_state a.old x)).registers
  both_after x =
      let y = registers_between x in
      let source : (state_after_all p (os ++ ps) (line_state a.old x)).registers ≡ (state_after_all p ps (line_state b.old y)).registers =
      ap (λ (s : LineState). s.registers) (state_after_all-append p os ps (line_state a.old x) ∙ ap (state_after_all p ps) (between x)) in
      state_after_all-append p ms ns (line_state a.new x) ∙ ap (state_after_all p ns) (after_first x) ∙ second.after y ∙ ap (line_state c.new) (sym source)

  both_address : (x : Registers) → (state_after_all p (os ++ ps) (line_state a.old x)).address ≡ c.old
  both_address x =
      ap (λ (s : LineState). s.address) (state_after_all-append p os ps (line_state a.old x) ∙ ap (state_after_all p ps) (between x)) ∙ second.address (registers_between x)

  pub carries-append : Carries bodies p (os ++ ps) (ms ++ ns) a c
  carries-append = record { rows = both_rows; after = both_after; address = both_address }

pub follows-append : (bodies : List Body) (p : Parameters) (os ps : List Operation) (a b c : Place) (u v w : List ℕ) (ks ls : List (List ℕ)) → FollowsOfLines bodies p os a b u v ks → FollowsOfLines bodies p ps b c v w ls
    → FollowsOfLines bodies p (os ++ ps) a c u w (ks ++ ls)
follows-append bodies p os ps a b c u v w ks ls first second = record {
  operations = first.operations ++ second.operations;
  adds = adds-append p u v w first.operations second.operations ks ls first.adds second.adds;
  carries = carries-append bodies p os ps first.operations second.operations a b c first.carries second.carries;
}
