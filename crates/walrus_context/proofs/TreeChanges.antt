-- Changes of open trees.
use Rattle.std.specs.Prelude.{◌≡◌, ℕ, zero, suc, List, [], ◌∷◌, ◌++◌, Result, Ok, Err, OnOk, OnErr}
use Rattle.std.proofs.Common.{sym, subst, arith}
use Rattle.std.proofs.lemmas.List.{length-append}
use Rattle.walrus_ir.specs.declared.seq.InstrSeq.{InstrSeq}
use Rattle.walrus_context.specs.OpenFrames.{OpenFrame, changed_at}
use Rattle.walrus_context.specs.OpenTrees.{AreInArena}

-- the frames are in an arena after one of them is changed
pub in_arena_changed : (arena : List InstrSeq) (change : OpenFrame → OpenFrame) → ((f : OpenFrame) → (change f).sequence ≡ f.sequence) → (n : ℕ) (fs : List OpenFrame) → AreInArena arena fs → AreInArena arena (changed_at n change fs)
in_arena_changed arena change same n [] h = tt
in_arena_changed arena change same zero (f ∷ fs) h = let e = same f in let l = h.0 in (omega arith, h.1)
in_arena_changed arena change same (suc n) (f ∷ fs) h = (h.0, in_arena_changed arena change same n fs h.1)

-- the frames are in an arena after a call that changed a frame or was refused
pub in_arena_after : {E : Type 0} (P : Type 0) (arena : List InstrSeq) (change : OpenFrame → OpenFrame) → ((f : OpenFrame) → (change f).sequence ≡ f.sequence) → (n : ℕ) (old new : List OpenFrame) (r : Result (Unit {0}) E) →
    OnOk r (P × (new ≡ changed_at n change old)) → OnErr r (new ≡ old) → AreInArena arena old → AreInArena arena new
in_arena_after P arena change same n old new (Ok u) ok err h = subst (AreInArena arena) (sym ok.1) (in_arena_changed arena change same n old h)
in_arena_after P arena change same n old new (Err e) ok err h = subst (AreInArena arena) (sym err) h

-- the frames are in an arena with more sequences
pub come_more : (arena others : List InstrSeq) (fs : List OpenFrame) → AreInArena arena fs → AreInArena (arena ++ others) fs
come_more arena others [] h = tt
come_more arena others (f ∷ fs) h = let long = length-append arena others in let l = h.0 in (omega arith, come_more arena others fs h.1)
