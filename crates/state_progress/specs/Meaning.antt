-- What the code's enum stands for: 01, Moves, "the progress of rows and where replies go".
use Rattle.state.specs.Session.{Progress, undone, done, waits, received, taken}
use Rattle.state_destinations.specs.Meaning.{destination_of}
use Rattle.state_progress.specs.declared.Progress as coded
use Rattle.state_progress.specs.declared.Progress.TheVariants.{Undone, Done, Waits, Taken, Received}

abbrev pub meaning : coded.Progress → Progress
meaning Undone = undone
meaning Done = done
meaning Waits = waits
meaning (Taken k) = taken k
meaning (Received d) = received (destination_of d)
