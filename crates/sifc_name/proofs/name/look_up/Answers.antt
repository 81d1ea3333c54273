use Rattle.sifc_name.proofs.name.look_up.Goals as goal

pub returns : goal.returns
returns c = record { found = c.retrieve.ensures.found; fits = c.retrieve.ensures.fits }
