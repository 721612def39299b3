-- What is told of faulty lines of frames.
use Rattle.std.specs.Prelude.{◌≡◌, [], ◌∷◌, codes}
use Rattle.system_model.specs.declared.SysKind.TheVariants.{BadLine, FirstLine, GivenTwice, IdTwice, LinkEndTwice, NoSuchNode, NodeWithoutSource, NumberOutOfRange, SectionNotEnded}
use Rattle.explain_frame_model.specs.FrameTold.{frame_told}

pub record FramesTold : Type 0 where
  pub word_left_out : frame_told BadLine (codes "xs1 1" ∷ codes "node 0 id 0" ∷ codes "node 1 id 1" ∷ codes "link 0:0 1:0 gap 4" ∷ []) 4
      ≡ codes "4 | link 0:0 1:0 gap 4\n  |              ^\naccepted here: `delay`\n"
  pub ends_early : frame_told BadLine (codes "xs1 1" ∷ codes "node 0 id" ∷ []) 2
      ≡ codes "2 | node 0 id\n  |          ^\naccepted here: a number, 0 to 65535\n"
  pub misspelled : frame_told BadLine (codes "xs1 1" ∷ codes "nod 0 id 0" ∷ []) 2
      ≡ codes "2 | nod 0 id 0\n  | ^\naccepted here: `node`; `link`; `bit`; `source`; `pins`; `play`\nnod begins no line here; near: node (one edit away)\n"
  pub wire_of_1 : frame_told BadLine (codes "xs1 1" ∷ codes "wire 0:1A 1:1A delay 3" ∷ []) 2
      ≡ codes "2 | wire 0:1A 1:1A delay 3\n  | ^\naccepted here: `node`; `link`; `bit`; `source`; `pins`; `play`\nwire is of edition 2: the text begins with xs1 2 then\n"
  pub step_too_long : frame_told BadLine (codes "xs1 1" ∷ codes "node 0 id 0" ∷ codes "play" ∷ codes "run 0 5 5" ∷ []) 4
      ≡ codes "4 | run 0 5 5\n  |         ^\naccepted here: the end of the line\n"
  pub first_line : frame_told FirstLine (codes "# x" ∷ codes "xs1 3" ∷ []) 2
      ≡ codes "2 | xs1 3\n  |     ^\naccepted here: `1`; `2`\n"
  pub out_of_range : frame_told NumberOutOfRange (codes "xs1 1" ∷ codes "node 100 id 0" ∷ []) 2
      ≡ codes "2 | node 100 id 0\n  |      ^\naccepted here: a number, 0 to 99\n"
  pub node_twice : frame_told GivenTwice (codes "xs1 1" ∷ codes "node 0 id 0" ∷ codes "node 00 id 1" ∷ []) 3
      ≡ codes "3 | node 00 id 1\n  |      ^\nline 2 gives it already\n"
  pub id_twice : frame_told IdTwice (codes "xs1 1" ∷ codes "node 0 id 7" ∷ codes "node 1 id 0x7" ∷ []) 3
      ≡ codes "3 | node 1 id 0x7\n  |           ^\nline 2 gives it already\n"
  pub link_end_twice : frame_told LinkEndTwice (codes "xs1 1" ∷ codes "node 0 id 0" ∷ codes "node 1 id 1" ∷ codes "link 0:0 1:0 delay 5 gap 4" ∷ codes "link 0:1 1:0 delay 5 gap 4" ∷ []) 5
      ≡ codes "5 | link 0:1 1:0 delay 5 gap 4\n  |          ^\nline 4 gives it already\n"
  pub no_such_node : frame_told NoSuchNode (codes "xs1 1" ∷ codes "node 0 id 0" ∷ codes "node 5 id 1" ∷ codes "link 0:0 1:0 delay 5 gap 4" ∷ []) 4
      ≡ codes "4 | link 0:0 1:0 delay 5 gap 4\n  |          ^\nnodes given before: 0, 5\n"
  pub no_such_end : frame_told NoSuchNode (codes "xs1 1" ∷ codes "node 0 id 0" ∷ codes "node 1 id 1" ∷ codes "link 0:0 1:0 delay 5 gap 4" ∷ codes "bit 0 0 0 1" ∷ []) 5
      ≡ codes "5 | bit 0 0 0 1\n  |           ^\nends of node 0 given before: 0\n"
  pub no_source : frame_told NodeWithoutSource (codes "xs1 1" ∷ codes "node 0 id 0" ∷ []) 2
      ≡ codes "2 | node 0 id 0\n  | ^\nno line source 0 comes\n"
  pub not_ended : frame_told SectionNotEnded (codes "xs1 1" ∷ codes "node 0 id 0" ∷ codes " source 0" ∷ []) 3
      ≡ codes "3 |  source 0\n  |  ^\nno line end comes after it\n"
  pub within_source : frame_told BadLine (codes "xs1 1" ∷ codes "node 0 id 0" ∷ codes "source 0" ∷ codes "node 9 id 9" ∷ codes "end" ∷ codes "node 0" ∷ []) 6
      ≡ codes "6 | node 0\n  |       ^\naccepted here: `id`\n"
