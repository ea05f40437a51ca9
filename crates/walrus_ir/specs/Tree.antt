-- Trees of sequences, with a value of `S` for each sequence and a value of `I` for each instruction.

mutual
  -- the items of a sequence: the first and the rest; an item is an instruction and the sequences in it
  pub data Items (S I : Type 0) : Type 0 where
    no_items : Items S I
    item : (instr : I) (inside : Sequences S I) (rest : Items S I) → Items S I

  -- sibling sequences: the first, with its items, and the rest
  pub data Sequences (S I : Type 0) : Type 0 where
    no_sequences : Sequences S I
    sequence : (head : S) (items : Items S I) (rest : Sequences S I) → Sequences S I

pub record Tree (S I : Type 0) : Type 0 where
  pub head : S
  pub items : Items S I

-- a tree, as a list of one sequence
abbrev pub alone : {S I : Type 0} → Tree S I → Sequences S I
alone t = sequence t.head t.items no_sequences

-- the same shape, with another value at each sequence and instruction
abbrev mutual
  pub map_items : {S I T J : Type 0} → (S → T) → (I → J) → Items S I → Items T J
  map_items f g no_items = no_items
  map_items f g (item i ss r) = item (g i) (map_sequences f g ss) (map_items f g r)

  pub map_sequences : {S I T J : Type 0} → (S → T) → (I → J) → Sequences S I → Sequences T J
  map_sequences f g no_sequences = no_sequences
  map_sequences f g (sequence h is r) = sequence (f h) (map_items f g is) (map_sequences f g r)
