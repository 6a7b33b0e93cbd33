-- The code of the readers at a position, which make a cursor and read through it, meets their contracts. Assumes nothing.
use Rattle.cursor.proofs.byte_from.Statement as byte_from
use Rattle.cursor.proofs.byte_from.Met as byte_from'
use Rattle.cursor.proofs.uleb_from.Statement as uleb_from
use Rattle.cursor.proofs.uleb_from.Met as uleb_from'

pub through : {M : Type 1} → byte_from.statement M × uleb_from.statement M
through {M} = (byte_from'.met, uleb_from'.met)
