use Rattle.pamitoye.proofs.EnoughRoom.{enough}
use Rattle.pamitoye.proofs.rooms.pamitoye_room.Goals as goal

pub returns-clause-enough : goal.returns-clause-enough
returns-clause-enough c = let a = c.args in rw c.max-e.ensures (λ z. enough a.d a.n a.max_segments)
