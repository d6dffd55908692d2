use Rattle.clru_shares.proofs.pass.take_kept.Goals as goal

pub take-requires : goal.take-requires
take-requires g c =
    (c.requires.0, c.requires.1, c.requires.2, c.requires.3, c.requires.4, c.requires.5, c.requires.6 (c.if-is_kept.true))

pub returns-then-is_kept : goal.returns-then-is_kept
returns-then-is_kept g c sizes limit kept request taken sized asked =
    rw (c.if-is_kept.true) (c.take.ensures sizes limit kept request taken sized (asked (c.if-is_kept.true)))

pub returns-else-is_kept : goal.returns-else-is_kept
returns-else-is_kept g c sizes limit kept request taken sized asked = rw (c.if-is_kept.false) taken
