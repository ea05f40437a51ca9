-- The items of all spaces, by the marks of their numbers.
use Rattle.std.proofs.Common.{◌≡◌, Bool, List, Result, Ok, Err, OnOk, sym, subst, ◌∙◌}
use Rattle.wasm_operators.specs.declared.types.Space.{Space}
use Rattle.wasm_operators.specs.declared.types.Space.TheVariants.{Tables, Types, Funcs, Globals, Memories, Elements, Data, Tags}
use Rattle.wasm_sections.specs.declared.fault.ModuleError.{ModuleError}
use Rattle.module_removal.specs.declared.item.ItemCounts.{ItemCounts}
use Rattle.module_removal.specs.declared.left.LeftItems.{LeftItems}
use Rattle.module_removal.specs.ItemNumbers.{AreMarksOf}
use Rattle.module_removal.specs.LeftSpaces.{marks_of, SetsMarks, AreMarked}

module _ (c : ItemCounts) (marks : List Bool) where
  -- one space after the other
  marked_all :
      (none types funcs tables memories globals tags elements all : LeftItems) → SetsMarks c marks Types none types → SetsMarks c marks Funcs types funcs →
      SetsMarks c marks Tables funcs tables → SetsMarks c marks Memories tables memories → SetsMarks c marks Globals memories globals →
      SetsMarks c marks Tags globals tags → SetsMarks c marks Elements tags elements → SetsMarks c marks Data elements all → AreMarked c marks all
  marked_all none types funcs tables memories globals tags elements all a b d e f g h i = marked
    where
      own_are : (space : Space) (own : List Bool) → marks_of all space ≡ own → AreMarksOf c marks space own → AreMarksOf c marks space (marks_of all space)
      own_are space own same are = subst (AreMarksOf c marks space) (sym same) are

      marked : AreMarked c marks all
      marked Types =
          own_are Types a.own (i.each Types ∙ h.each Types ∙ g.each Types ∙ f.each Types ∙ e.each Types ∙ d.each Types ∙ b.each Types ∙ a.each Types) a.are
      marked Funcs = own_are Funcs b.own (i.each Funcs ∙ h.each Funcs ∙ g.each Funcs ∙ f.each Funcs ∙ e.each Funcs ∙ d.each Funcs ∙ b.each Funcs) b.are
      marked Tables = own_are Tables d.own (i.each Tables ∙ h.each Tables ∙ g.each Tables ∙ f.each Tables ∙ e.each Tables ∙ d.each Tables) d.are
      marked Memories = own_are Memories e.own (i.each Memories ∙ h.each Memories ∙ g.each Memories ∙ f.each Memories ∙ e.each Memories) e.are
      marked Globals = own_are Globals f.own (i.each Globals ∙ h.each Globals ∙ g.each Globals ∙ f.each Globals) f.are
      marked Tags = own_are Tags g.own (i.each Tags ∙ h.each Tags ∙ g.each Tags) g.are
      marked Elements = own_are Elements h.own (i.each Elements ∙ h.each Elements) h.are
      marked Data = own_are Data i.own (i.each Data) i.are

  pub marked_if :
      (none types funcs tables memories globals tags elements all : LeftItems) (r : Result (Unit {0}) ModuleError) → SetsMarks c marks Types none types →
      SetsMarks c marks Funcs types funcs → SetsMarks c marks Tables funcs tables → SetsMarks c marks Memories tables memories →
      SetsMarks c marks Globals memories globals → SetsMarks c marks Tags globals tags → SetsMarks c marks Elements tags elements →
      OnOk r (SetsMarks c marks Data elements all) → OnOk r (AreMarked c marks all)
  marked_if none types funcs tables memories globals tags elements all (Ok u) a b d e f g h i =
      marked_all none types funcs tables memories globals tags elements all a b d e f g h i
  marked_if none types funcs tables memories globals tags elements all (Err x) a b d e f g h i = tt
