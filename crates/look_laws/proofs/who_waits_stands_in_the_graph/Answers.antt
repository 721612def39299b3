use Rattle.look_laws.proofs.Graph.{vertices, thread_there, input_there}
use Rattle.look_laws.proofs.who_waits_stands_in_the_graph.Goals as goal

pub returns : goal.returns
returns c = record { vertices = vertices; threads = λ plan snaps n snap k th kept. thread_there plan snaps kept n snap k th; inputs = λ plan snaps n node snap i now kept. input_there plan snaps kept n node snap i now }
