-- What holds of every capture that is written.
use Rattle.std.specs.Prelude.{List, map}
use Rattle.std.specs.List.{AllByRecursion}
use Rattle.capture_decode.specs.Capture.{IsCapture}
use Rattle.capture_write.specs.Written.{SentFrame, capture_of, record_of, IsWritable}

-- what is written is a capture, and its records are the frames
abbrev pub WritesCapture : Type 0
WritesCapture = (frames : List SentFrame) → AllByRecursion IsWritable frames → IsCapture (capture_of frames) (map record_of frames)
