-- The move that the code's enum stands for. 01: "A move names service, session and behaviour row".
use Rattle.move_rules.specs.Moves.{Move, local, receive, send, reply, outer_message, outer_reply, close}
use Rattle.move_step.specs.declared.Move as coded

unfoldable pub move_of : coded.Move → Move
move_of (coded.Move.Local q n r) = local q n r
move_of (coded.Move.Receive q n r) = receive q n r
move_of (coded.Move.Send q n r to) = send q n r to
move_of (coded.Move.Reply q n r) = reply q n r
move_of (coded.Move.OuterMessage q id n number) = outer_message q id n number
move_of (coded.Move.OuterReply q n r) = outer_reply q n r
move_of (coded.Move.Close q n) = close q n
