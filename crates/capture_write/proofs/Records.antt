-- Each record is read back as it was written: the four numbers are below 2 ^ 32, and the header is one of this format.
use Rattle.std.proofs.Common.{◌≡◌, ℕ, ◌/◌, ◌%◌, ◌*◌, ◌<◌, List, [], ◌∷◌, ◌++◌, length, refl, sym, ap, inl, arith}
use Rattle.std.specs.Prelude.{map}
use Rattle.std.specs.List.{AllByRecursion}
use Rattle.std.proofs.Math.Nat.{mod-lt}
use Rattle.std.proofs.lemmas.List.{append-nil}
use Rattle.byteorder.specs.Endian.{big_bytes, big_number}
use Rattle.byteorder.specs.Numbers.{big_number-reads_back}
use Rattle.capture_decode.specs.Capture.{IsHeader, IsRecord, AreRecords}
use Rattle.capture_decode.specs.declared.order.Order.TheVariants.{Big}
use Rattle.capture_write.specs.Written.{IsWritable, SentFrame, header_octets, record_octets, record_of, records_octets}
use Rattle.capture_write.specs.Laws.{WritesCapture}

reads : (x : ℕ) (rest : List ℕ) → x < 4294967296 → x ≡ big_number 4 (big_bytes 4 x ++ rest)
reads x rest h = sym (big_number-reads_back 4 x rest h)

is_header : IsHeader Big header_octets
is_header = record { whole = refl; magic = inl refl; version = (refl, refl); link = refl }

module _ (frame : SentFrame) (fits : IsWritable frame) where
  count : List ℕ
  count = big_bytes 4 (length frame.octets)

  is_record : IsRecord Big (record_octets frame) (record_of frame)
  is_record =
      let low : frame.tick % 2 < 2 = mod-lt frame.tick (omega arith) in
      record {
        seconds = reads (frame.tick / 2) (big_bytes 4 (frame.tick % 2 * 500000) ++ (count ++ (count ++ frame.octets))) (omega (arith, fits.0));
        fraction = reads (frame.tick % 2 * 500000) (count ++ (count ++ frame.octets)) (omega (arith, low));
        captured = reads (length frame.octets) (count ++ frame.octets) (omega (arith, fits.1));
        original = reads (length frame.octets) frame.octets (omega (arith, fits.1));
        whole = omega arith;
        rest = refl;
        most = fits.1;
        within = omega arith;
      }

are_records : (frames : List SentFrame) → AllByRecursion IsWritable frames → AreRecords Big (records_octets frames) (map record_of frames)
are_records [] fit = refl
are_records (frame ∷ frames) fit = (record_octets frame, records_octets frames, refl, is_record frame fit.0, are_records frames fit.1)

pub writes_capture : WritesCapture
writes_capture frames fit = (
  Big,
  record {
    header = header_octets;
    body = records_octets frames;
    place = ap (λ (l : List ℕ). header_octets ++ l) (sym (append-nil (records_octets frames)));
    is_header = is_header;
    are_records = are_records frames fit;
  },
)
