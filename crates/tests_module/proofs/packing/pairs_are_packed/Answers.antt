use Rattle.tests_module.proofs.packing.pairs_are_packed.Goals as goal

pub end-requires : goal.end-requires
end-requires g c = (_, c.in_ok-add-2.ensures.packed _ (c.in_ok-add.ensures.packed _ c.in_ok-packer.ensures.none))
