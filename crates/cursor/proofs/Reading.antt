-- The code of the readers at a cursor meets their contracts: what is read is told, and the cursor stands past it, or on a refusal where it
-- stood. Assumes nothing.
use Rattle.cursor.proofs.Bytes.u8.Statement as u8
use Rattle.cursor.proofs.Bytes.u8.Met as u8'
use Rattle.cursor.proofs.Bytes.uleb.Statement as uleb
use Rattle.cursor.proofs.Bytes.uleb.Met as uleb'

pub meets : {M : Type 1} → u8.statement M × uleb.statement M
meets {M} = (u8'.met, uleb'.met)
