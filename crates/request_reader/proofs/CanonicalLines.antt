-- What the canonical text of a request with a job asks for.
use Rattle.std.proofs.Common.{◌≡◌, ℕ, suc, ◌≤◌, List, ◌++◌, length, codes, true, Some, Ok, refl, sym, ap, ◌∙◌, arith}
use Rattle.std.specs.Option.{ok_or}
use Rattle.std.specs.Str.{is_utf8}
use Rattle.serde_json.specs.Data.{Data, object, member, no_members, string}
use Rattle.serde_json.specs.Read.{read}
use Rattle.serde_json.specs.Written.{compact_text}
use Rattle.json.specs.Print.{escape_byte}
use Rattle.job_language.specs.declared.errors.Error.TheVariants as error
use Rattle.job_json.specs.Canonical.{IsCanonical}
use Rattle.job_json.proofs.CanonicalJobs.{read_canonical}
use Rattle.request_reader.specs.declared.requests.TheConstants.{MAX_REQUEST}
use Rattle.request_reader.specs.Asks.{submit, execute}
use Rattle.request_reader.specs.LineAsks.{asked_by, asked_in}
use Rattle.request_reader.proofs.LineAnswers.{asked_by-value}

-- a request with a job
abbrev pub request_of : (op : List ℕ) → Data → Data
request_of op job = object (member (codes "job") job (member (codes "op") (string op) no_members))

canonical_request : (deep : ℕ) (op : List ℕ) (job : Data) → IsCanonical deep job → IsCanonical (suc deep) (request_of op job)
canonical_request deep op job c = record {
  reads = rw c.reads refl;
  numbers = (c.numbers, (tt, tt));
  depth = omega (arith, c.depth);
}

module _ (line : List ℕ) (job : Data) (c : IsCanonical 4 job) (utf8 : is_utf8 line ≡ true) (short : length line ≤ MAX_REQUEST) where
  asks : (op : List ℕ) → line ≡ compact_text (request_of op job) → asked_by line ≡ asked_in (ok_or (Some (request_of op job)) error.BadJson)
  asks op is =
      let reads : read line ≡ Some (request_of op job) = ap read is ∙ read_canonical 5 (request_of op job) (canonical_request 4 op job c) (omega arith) in
      asked_by-value line short (Some (request_of op job)) (rw utf8 (sym reads))

  pub executes : line ≡ codes "{\"job\":" ++ (compact_text job ++ codes ",\"op\":\"execute\"}") → asked_by line ≡ Ok (execute job)
  unfolding escape_byte
  executes is = asks (codes "execute") is

  pub submits : line ≡ codes "{\"job\":" ++ (compact_text job ++ codes ",\"op\":\"submit\"}") → asked_by line ≡ Ok (submit job)
  unfolding escape_byte
  submits is = asks (codes "submit") is
