use Rattle.ubus_frames.proofs.WriteLemmas.{fits_path, fits_method, fits_signature, fits_payload, fits_subscribers, fits_user, fits_group, sum_is}
use Rattle.ubus_frames.proofs.fits.fields_size.Goals as goal

pub returns-in_default : goal.returns-in_default
returns-in_default c = λ f. c.in_default.ensures (fits_path _ f)

pub returns-in_default-text_size : goal.returns-in_default-text_size
returns-in_default-text_size c = λ f. c.in_default-text_size.ensures (fits_method _ f)

pub returns-in_default-attrs_size : goal.returns-in_default-attrs_size
returns-in_default-attrs_size c = λ f. c.in_default-attrs_size.ensures (fits_signature _ f)

pub returns-in_default-attrs_size-2 : goal.returns-in_default-attrs_size-2
returns-in_default-attrs_size-2 c = λ f. c.in_default-attrs_size-2.ensures (fits_payload _ f)

pub returns-in_default-numbers_size : goal.returns-in_default-numbers_size
returns-in_default-numbers_size c = λ f. c.in_default-numbers_size.ensures (fits_subscribers _ f)

pub returns-in_default-text_size-2 : goal.returns-in_default-text_size-2
returns-in_default-text_size-2 c = λ f. c.in_default-text_size-2.ensures (fits_user _ f)

pub returns-in_default-text_size-3 : goal.returns-in_default-text_size-3
returns-in_default-text_size-3 c = λ f. c.in_default-text_size-3.ensures (fits_group _ f)

pub returns : goal.returns
returns c = (
  record {
    signature = c.in-Some-attrs_size.ensures.there;
    payload = c.in-Some-attrs_size-2.ensures.there;
    path = c.in-Some.ensures.there;
    method = c.in-Some-text_size.ensures.there;
    user = c.in-Some-text_size-2.ensures.there;
    group = c.in-Some-text_size-3.ensures.there;
  },
  sum_is c.args.frame.now _ _ _ _ _ _ _ _ _ _ _ _ _ c.in-Some.ensures.size_is c.in-Some-text_size.ensures.size_is c.in-Some-attrs_size.ensures.size_is
      c.in-Some-attrs_size-2.ensures.size_is c.in-Some-numbers_size.ensures.size_is c.in-Some-text_size-2.ensures.size_is c.in-Some-text_size-3.ensures.size_is
      c.number_size.ensures.0 c.number_size-2.ensures.0 c.number_size-3.ensures.0 c.number_size-4.ensures.0 c.truth_size.ensures.0 c.truth_size-2.ensures.0,
)
