-- `personality::installed` meets its contract. Assumes nothing.
use Rattle.personality.proofs.Reasons.{install_decided}
use Rattle.personality.proofs.installed.Goals as goal

pub returns : goal.returns
returns c = install_decided _ _ _ _ _ _ _ c.add.ensures c.set_pc.ensures
