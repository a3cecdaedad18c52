use Rattle.index.proofs.Slots.{slot_held, slot_free}
use Rattle.index.proofs.slot_for.Goals as goal

pub returns-in-Some : goal.returns-in-Some
returns-in-Some c = slot_held c.args.entries.now c.args.key _ c.in-Some.ensures

pub returns-in-None : goal.returns-in-None
returns-in-None c = slot_free c.args.entries.now c.args.key _ c.in-None.ensures c.vacant.ensures
