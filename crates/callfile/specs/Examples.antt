-- Examples by computation: the lines of document 01's input as they are written and read, its answer lines, and lines that are malformed.
-- Assumes nothing.
use Prim.Native.String.{String, ◌++◌}
use Rattle.std.specs.Prelude.{◌≡◌, refl, true}
use Rattle.rules.specs.Money.{millions, mils}
use Rattle.rules.specs.Calls.{accepted, refused}
use Rattle.rules.specs.Codes.{order_call_of, call_of}
use Rattle.rules.specs.declared.calls.Call.{Call}
use Rattle.rules.specs.declared.calls.Call.TheVariants.{Enrol, Attach, Detach, Regular, Raise, Withdraw, OwnQuota, Order, Fill, Cancel, Close}
use Rattle.rules.specs.declared.calls.Answer.{Answer}
use Rattle.columns.specs.Column.{byte_at, marked, number, digits, same, read_plain, plain_at}
use Rattle.columns.specs.Texts.{bytes}
use Rattle.callfile.specs.Lines.{words_of, line_text, call_text, answer_text, words_fit, fields, is_call, line_of, columns_formed, line_formed, malformed, read_line}

-- the call is written as this text and a line feed, and read from the text
abbrev Line : Call → String → Type 0
Line call t = (call_text call ≡ bytes (t ++ "\n")) × (read_line (bytes t) ≡ record { formed = true; call = call })

-- a line that is no call
abbrev Malformed : String → Type 0
Malformed t = read_line (bytes t) ≡ malformed

abbrev Answered : Answer → String → Type 0
Answered answer t = answer_text answer ≡ bytes (t ++ "\n")

pub record Examples : Type 0 where
  -- the input of document 01
  pub enrol : Line (Enrol 1 1) " 1        1        1        0        0"
  pub attach : Line (Attach 20001 0) " 2    20001        0        0        0"
  pub regular : Line (Regular 1 0 (millions 3) (millions 8)) " 4        1        0        3        8"
  pub close : Line Close "11        0        0        0        0"
  pub own_quota_lem : Line (OwnQuota 0 (millions 5)) " 7        0        5        0        0"
  pub order : Line (Order 20001 1 (mils 12500) 300000) " 8    20001        1    12500   300000"
  pub fill : Line (Fill 1 (mils 12400) 100000) " 9        1    12400   100000        0"
  pub cancel : Line (Cancel 2) "10        2        0        0        0"
  -- the other codes, and a field of nine digits
  pub detach : Line (Detach 20001) " 3    20001        0        0        0"
  pub raise : Line (Raise 1 0 (millions 100000) 0) " 5        1        0   100000        0"
  pub withdraw : Line (Withdraw 1 0) " 6        1        0        0        0"
  pub nine-digits : Line (Cancel 999999999) "10999999999        0        0        0"
  -- the output of document 01
  pub first_order : Answered (accepted 1) "  0     1"
  pub at-own_quota : Answered (refused 16) " 16     0"
  pub all_orders : Answered (accepted 65536) "  0 65536"
  -- malformed
  pub code_zero : Malformed " 0        0        0        0        0"
  pub code_twelve : Malformed "12        0        0        0        0"
  pub code_minus-one : Malformed "-1        0        0        0        0"
  pub code_left : Malformed "1         1        1        0        0"
  pub code_leading_zero : Malformed "01        1        1        0        0"
  pub leading_zero : Malformed " 1       01        1        0        0"
  pub plus : Malformed " 1       +1        1        0        0"
  pub minus : Malformed " 1       -1        1        0        0"
  pub missing : Malformed " 1        -        1        0        0"
  pub field_blank : Malformed " 1                 1        0        0"
  pub unused : Malformed " 1        1        1        0        1"
  pub unused_third : Malformed " 1        1        1        1        0"
  pub close_with_a_field : Malformed "11        1        0        0        0"
  pub carriage_return : Malformed " 1        1        1        0        0\r"
  pub line_feed : Malformed " 1        1        1        0        0\n"
  pub short : Malformed " 1        1        1        0       0"
  pub return_for_the_last : Malformed " 1        1        1        0       0\r"
  pub long : Malformed "  1        1        1        0        0"
  pub empty : Malformed ""

pub examples : Examples
unfolding byte_at marked number digits same read_plain plain_at call_of order_call_of words_of line_text call_text answer_text words_fit fields is_call line_of columns_formed line_formed read_line
examples =
    record {
      enrol = (refl, refl);
      attach = (refl, refl);
      regular = (refl, refl);
      close = (refl, refl);
      own_quota_lem = (refl, refl);
      order = (refl, refl);
      fill = (refl, refl);
      cancel = (refl, refl);
      detach = (refl, refl);
      raise = (refl, refl);
      withdraw = (refl, refl);
      nine-digits = (refl, refl);
      first_order = refl;
      at-own_quota = refl;
      all_orders = refl;
      code_zero = refl;
      code_twelve = refl;
      code_minus-one = refl;
      code_left = refl;
      code_leading_zero = refl;
      leading_zero = refl;
      plus = refl;
      minus = refl;
      missing = refl;
      field_blank = refl;
      unused = refl;
      unused_third = refl;
      close_with_a_field = refl;
      carriage_return = refl;
      line_feed = refl;
      short = refl;
      return_for_the_last = refl;
      long = refl;
      empty = refl;
    }
